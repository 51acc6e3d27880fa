-- What an exported function's answer says of the lent parts.
-- Assumes nothing.
use mathlib.Core.Path.{◌≡◌, refl, sym, ◌∙◌}
use mathlib.Core.Bool.{Bool, true, false}
use mathlib.Core.List.{List, []}
use Prim.Native.Nat.{ℕ}
use native.Mathlib.Omega.{arith}
use Rattle.ground.specs.Pick.{pick}
use Rattle.ground.specs.Answer.{accepted}
use Rattle.ground.specs.Put.{put}
use Rattle.ground.specs.Script.{Patch, run}
use Rattle.ground.proofs.Answers.{run-accepted}
use Rattle.frame.specs.declared.extent.sizes.Sizes.{Sizes}
use Rattle.frame.specs.extent.Sizes.{well_sizes}
use Rattle.frame.specs.Record.{well_frame, check_answer}
use Rattle.frame.proofs.Records.{frame-sizes}
use Rattle.layout.specs.FrameBytes.{sizes_at, frame_at}
use Rattle.jaskkovir.specs.Framed.{whole}

-- an accepted call's bytes, as its script has them
pub written : (n : ℕ) (bs l : List ℕ) {m : List ℕ} → n ≡ 0 → m ≡ put l 0 bs → m ≡ run (accepted n (whole bs)) l
unfolding run
written n bs l z e = e ∙ run-accepted n (whole bs) l z

-- a call where a part is too short, and where none is: n is what it answers then
pub refused-short : (t : Bool) (n : ℕ) (ps : List Patch) (l : List ℕ) → t ≡ true → (4 ≡ pick t 4 n) × (l ≡ run (accepted (pick t 4 n) ps) l)
unfolding run
refused-short t n ps l e = rw e (refl, refl)

pub answered : (t : Bool) (n : ℕ) (ps : List Patch) (l : List ℕ) {a : ℕ} {m : List ℕ} → t ≡ false → a ≡ n → m ≡ run (accepted n ps) l
    → (a ≡ pick t 4 n) × (m ≡ run (accepted (pick t 4 n) ps) l)
answered t n ps l e p q = rw e (p, q)

pub checked-sizes : (l : List ℕ) {s : Sizes} {r : ℕ} → s ≡ sizes_at l → r ≡ check_answer (frame_at l) → r ≡ 0 → well_sizes s ≡ true
unfolding check_answer frame_at
checked-sizes l e k z = rw e (frame-sizes (frame_at l) (by (well_frame (frame_at l)) (sym k ∙ z)))
  where
    by : (b : Bool) → ◌≡◌ {A = ℕ} (pick b 0 1) 0 → b ≡ true
    by true h = refl
    by false h = absurd (omega arith)

-- a call that lays a script of its own, where a part is too short, and where none is
pub unlaid : (t : Bool) (n : ℕ) (ps : List Patch) (l : List ℕ) → t ≡ true → (4 ≡ pick t 4 n) × (l ≡ run (pick t [] ps) l)
unfolding run
unlaid t n ps l e = rw e (refl, refl)

pub laid : (t : Bool) (n : ℕ) (ps : List Patch) (l : List ℕ) {a : ℕ} {m : List ℕ} → t ≡ false → a ≡ n → m ≡ run ps l
    → (a ≡ pick t 4 n) × (m ≡ run (pick t [] ps) l)
laid t n ps l e p q = rw e (p, q)
