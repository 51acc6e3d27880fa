-- A script: patches laid over a buffer, one after the other. It is fixed by what a call reads and by the buffer's length, never by the buffer's bytes:
-- so whatever no patch covers stays as lent, and what is laid does not depend on what lay there.
use Rattle.std.specs.Prelude.{◌⊎◌, List, [], ◌∷◌, ℕ, ◌+◌, ◌≤◌, ◌<◌, length}
use Rattle.ground.specs.Put.{put}

pub record Patch : Type 0 where
  pub at : ℕ
  pub bytes : List ℕ

unfoldable pub run : List Patch → List ℕ → List ℕ
run [] l = l
run (p ∷ ps) l = run ps (put l p.at p.bytes)

-- no patch of the script covers index i
abbrev pub Avoids : ℕ → List Patch → Type 0
Avoids i [] = Unit {0}
Avoids i (p ∷ ps) = ((i < p.at) ⊎ (p.at + length p.bytes ≤ i)) × Avoids i ps

-- every patch lies within lo .. hi - 1
abbrev pub Inside : ℕ → ℕ → List Patch → Type 0
Inside lo hi [] = Unit {0}
Inside lo hi (p ∷ ps) = ((lo ≤ p.at) × (p.at + length p.bytes ≤ hi)) × Inside lo hi ps
