-- `temporal::sweep::Swept::visit` meets its contract.
use Rattle.std.proofs.Common.{sym, ◌∙◌}
use Rattle.stack.specs.Code.Numbers.{found_at}
use Rattle.temporal.proofs.Aims.{read_of}
use Rattle.temporal.proofs.Sweeps.{visit-refused, visit-absent, visit-joined}
use Rattle.temporal.proofs.sweep.Swept.visit.Goals as goal

pub bits_of-requires : goal.bits_of-requires
bits_of-requires c =
    let r = read_of _ _ _ _ (sym c.cell_at.ensures ∙ c.in-Of.is) in
    (r.0, r.1, c.args.self.now.near.first, c.args.self.now.near.second)

pub returns-in-Refused-clause-s_after : goal.returns-in-Refused-clause-s_after
returns-in-Refused-clause-s_after c = visit-refused _ _ _ _ (found_at c.args.s.now) c.cell_at.ensures c.in-Refused.is

pub returns-in-Absent-clause-s_after : goal.returns-in-Absent-clause-s_after
returns-in-Absent-clause-s_after c = visit-absent _ _ _ _ (found_at c.args.s.now) c.cell_at.ensures c.in-Absent.is

pub returns-in-Of-clause-s_after : goal.returns-in-Of-clause-s_after
returns-in-Of-clause-s_after c =
    visit-joined _ _ _ _ (found_at c.args.s.now) (found_at c.add_bits.new.s) c.cell_at.ensures c.in-Of.is c.bits_of.ensures c.add_bits.ensures.1
