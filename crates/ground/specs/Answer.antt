-- Answers are document 01's refusal numbers, and 0 is acceptance.
use Rattle.std.specs.Prelude.{List, [], ℕ, zero, suc}
use Rattle.ground.specs.Script.{Patch}

-- the first of two answers that refuses
abbrev pub or_else : ℕ → ℕ → ℕ
or_else zero n = n
or_else (suc m) n = suc m

-- what a call that answers n writes: its script where it is accepted, nothing where it is refused
abbrev pub accepted : ℕ → List Patch → List Patch
accepted zero ps = ps
accepted (suc n) ps = []
