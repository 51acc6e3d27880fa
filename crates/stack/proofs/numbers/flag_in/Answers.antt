-- `stack::numbers::flag_in` meets its contract.
use mathlib.Core.Path.{ap, ◌∙◌}
use Prim.Native.Nat.{ℕ}
use lib.ListN.{get_or}
use Rattle.stack.specs.Code.Numbers.{is_on}
use Rattle.stack.proofs.Helds.{flag_is}
use Rattle.stack.proofs.numbers.flag_in.Goals as goal

pub returns : goal.returns
returns c =
    let s = c in
    let n = c.place_of.ensures.0 in
    ap (λ (i : ℕ). is_on (get_or s.args.s.now i 0)) n ∙ flag_is s.args.s.now s.args.f
