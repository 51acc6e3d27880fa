-- These definitions follow the code: eight candidates and a count for the candidates of a state, and what is added to them.
use Rattle.std.specs.Prelude.{ℕ, suc, ◌+◌, Bool, List, [], ◌∷◌, eqb, get_or, set, take}
use Rattle.ground.specs.Pick.{pick}
use Rattle.stack.specs.declared.candidate.Candidate.{Candidate}
use Rattle.stack.specs.Stack.{State, nobody, heavier}
use Rattle.stack.specs.Answered.{Outcome, refused, found}

-- What the lent numbers hold (`Numbers`): eight candidates, of which the first `count` are in use, and the flags.
pub record Found : Type 0 where
  pub stack : List Candidate
  pub count : ℕ
  pub newmv : Bool
  pub above : Bool
  pub left : Bool

-- other candidates, all else alike
abbrev pub with_stack : Found → List Candidate → Found
with_stack s l = record { stack = l; count = s.count; newmv = s.newmv; above = s.above; left = s.left }

-- the candidates in use, and the state that they stand for
unfoldable pub live : Found → List Candidate
live s = take s.count s.stack

unfoldable pub view : Found → State
view s = record { cands = live s; newmv = s.newmv; above = s.above; left = s.left }

-- the candidate at i gains weight; and one behind those in use
unfoldable pub weightier : ℕ → ℕ → Found → Found
weightier w i s = with_stack s (set s.stack i (heavier w (get_or s.stack i nobody)))

unfoldable pub appended : Found → Candidate → Found
appended s c = record { stack = set s.stack s.count c; count = suc s.count; newmv = s.newmv; above = s.above; left = s.left }

-- all weights together
unfoldable pub heft : List Candidate → ℕ
heft [] = 0
heft (x ∷ xs) = x.weight + heft xs

-- an answer is 0, or a refusal, and then nothing is said of the stack
unfoldable pub outcome : ℕ → Found → Outcome
outcome answer s = pick (eqb answer 0) (found (view s)) (refused answer)
