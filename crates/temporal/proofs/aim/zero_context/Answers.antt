-- `temporal::aim::zero_context` meets its contract.
use mathlib.Core.Path.{sym, ◌∙◌}
use Rattle.frame.proofs.hints.Flags.{flag-is}
use Rattle.temporal.specs.Temporal.{zero_of}
use Rattle.temporal.proofs.Aims.{read_of}
use Rattle.temporal.proofs.aim.zero_context.Goals as goal

pub pair_of-p-requires : goal.pair_of-p-requires
pair_of-p-requires c =
    let s = c in
    let r = read_of _ _ _ _ (sym c.cell_at.ensures ∙ c.in-Of.is) in
    (r.0, r.1, s.requires.1, s.requires.2)

pub returns-in-Refused : goal.returns-in-Refused
unfolding zero_of
returns-in-Refused c = rw (← c.cell_at.ensures, c.in-Refused.is)

pub returns-in-Absent : goal.returns-in-Absent
unfolding zero_of
returns-in-Absent c = rw (← c.cell_at.ensures, c.in-Absent.is)

pub returns-in-Of : goal.returns-in-Of
unfolding zero_of
returns-in-Of c = rw (← c.cell_at.ensures, c.in-Of.is, (c.from.ensures ∙ flag-is _), c.is_far.ensures, c.pair_of-p.ensures.0)
