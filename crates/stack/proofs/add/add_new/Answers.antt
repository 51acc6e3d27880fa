-- `stack::add::add_new` meets its contract.
use Rattle.std.proofs.Common.{ap, sym, ◌∙◌, arith}
use Rattle.std.specs.Option.{is_some}
use Rattle.stack.specs.Code.Found.{Found, view, appended}
use Rattle.stack.proofs.Adds.{new, old}
use Rattle.stack.proofs.add.add_new.Goals as goal

pub returns-then-is_none : goal.returns-then-is_none
unfolding appended
returns-then-is_none c =
    let t = c.lay.ensures in
    let n = new c.args.s.now _ (sym (ap is_some c.seek.ensures) ∙ c.if-is_none.ensures) c.requires.1 in
    (t.0, omega (arith, ap (λ (f : Found). f.count) t.1), rw (← c.pair_bits-k.ensures.back) (ap view t.1 ∙ n))

pub returns-else-is_none : goal.returns-else-is_none
returns-else-is_none c =
    (c.requires.0, omega arith, rw (← c.pair_bits-k.ensures.back) (old c.args.s.now _ (sym (ap is_some c.seek.ensures) ∙ c.if-is_none.ensures)))
