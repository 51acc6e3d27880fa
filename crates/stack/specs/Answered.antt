-- A part of a search is refused, or has found something: the next part goes on from there.
use Rattle.std.specs.Prelude.{ℕ}
use Rattle.stack.specs.Stack.{State}

pub data Outcome : Type 0 where
  refused : ℕ → Outcome
  found : State → Outcome

abbrev pub on_found : Outcome → (State → Outcome) → Outcome
on_found (refused n) f = refused n
on_found (found s) f = f s
