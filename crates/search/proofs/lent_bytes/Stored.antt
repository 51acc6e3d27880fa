-- Candidates laid over lent bytes: what each call leaves is the script so far, and no script leaves the 96 bytes of eight records.
-- Assumes nothing.
use mathlib.Core.Path.{◌≡◌, sym, ap, ◌∙◌}
use mathlib.Core.Bool.{Bool, true, false}
use mathlib.Core.List.{List, [], ◌∷◌}
use Prim.Native.Nat.{ℕ, ◌+◌, ◌*◌, ◌/◌, ◌%◌, ◌^◌, ◌≤◌, ◌<◌}
use native.Mathlib.Omega.{arith}
use lib.ListN.{length, get_or}
use lib.Seq.{get_or-take}
use Rattle.ground.specs.Put.{put}
use Rattle.ground.specs.Little.{four_bytes}
use Rattle.ground.specs.Script.{Patch, run, Inside}
use Rattle.ground.specs.Span.{span}
use Rattle.ground.proofs.Scripts.{run-append, inside-append}
use Rattle.ground.proofs.Spans.{more, stop, inside}
use Rattle.vector.specs.declared.mv.Mv.{Mv}
use Rattle.vector.specs.Vector.{mv_bytes}
use Rattle.stack.specs.declared.candidate.Candidate.{Candidate}
use Rattle.stack.specs.Code.Found.{live}
use Rattle.stack.specs.Stack.{nobody}
use Rattle.stack.specs.Code.Numbers.{cand_at, found_at, Held}
use Rattle.stack.proofs.Adds.{in_use}
use Rattle.stack.proofs.Helds.{cand-is}
use Rattle.search.specs.lent_bytes.Store.{second_patch, candidate_patches, candidates_script, fill_patch, fills_script}

-- what lies above a number's low byte, and above its four
low : (a b k : ℕ) → a ≡ b + 256 * k → b % 256 ≡ a % 256
low a b k e = omega arith

pub four_same : (n : ℕ) → four_bytes (n % 2 ^ 32) ≡ four_bytes n
four_same n =
    let q = n / 2 ^ 32 in
    let a : n % 2 ^ 32 % 256 ≡ n % 256 = omega arith in
    let b = low (n / 256) (n % 2 ^ 32 / 256) (65536 * q) (omega arith) in
    let c = low (n / 65536) (n % 2 ^ 32 / 65536) (256 * q) (omega arith) in
    let d = low (n / 16777216) (n % 2 ^ 32 / 16777216) q (omega arith) in
    rw (a, b, c, d)

second-inside : (compound : Bool) (i : ℕ) (v : Mv) → i < 8 → Inside 0 96 (second_patch compound i v)
second-inside true i v h = ((omega arith, omega arith), tt)
second-inside false i v h = tt

module _ (compound : Bool) where
  pub second-laid : (i : ℕ) (v : Mv) (s : List ℕ) {t : List ℕ} → compound ≡ true → t ≡ put s (12 * i + 4) (mv_bytes v) → t ≡ run (second_patch compound i v) s
  unfolding run
  second-laid i v s e f = rw e f

  pub no_second : (i : ℕ) (v : Mv) (s : List ℕ) → compound ≡ false → s ≡ run (second_patch compound i v) s
  unfolding run
  no_second i v s e = rw e

  pub candidate-laid : (i : ℕ) (c : Candidate) (s : List ℕ) {t u r : List ℕ} → t ≡ put s (12 * i) (mv_bytes c.mv.first)
      → u ≡ run (second_patch compound i c.mv.second) t → r ≡ put u (12 * i + 8) (four_bytes c.weight) → r ≡ run (candidate_patches compound i c) s
  unfolding run candidate_patches
  candidate-laid i c s e f g =
      g
      ∙ ap (λ (l : List ℕ). put l (12 * i + 8) (four_bytes c.weight)) (f ∙ ap (run (second_patch compound i c.mv.second)) e)
      ∙ sym (run-append (second_patch compound i c.mv.second) (record { at = 12 * i + 8; bytes = four_bytes c.weight } ∷ []) (put s (12 * i) (mv_bytes c.mv.first)))

  -- the patches of candidate i
  abbrev pub candidate_of : List Candidate → ℕ → List Patch
  candidate_of l i = candidate_patches compound i (get_or l i nobody)

  -- a candidate that is read out of the numbers
  as_read : (i : ℕ) (c : Candidate) → candidate_patches compound i (record { mv = c.mv; weight = c.weight % 2 ^ 32 }) ≡ candidate_patches compound i c
  unfolding candidate_patches
  as_read i c = rw (four_same c.weight)

  -- a turn of the loop, and its end
  module _ (s : List ℕ) (h : Held s) (i : ℕ) (l : List ℕ) {t : List ℕ} (e : t ≡ run (span (candidate_of (live (found_at s))) 0 i) l) where
    pub one_more : i < (found_at s).count → {c : Candidate} {u : List ℕ} → c ≡ record { mv = (cand_at s i).mv; weight = (cand_at s i).weight % 2 ^ 32 }
        → u ≡ run (candidate_patches compound i c) t → u ≡ run (span (candidate_of (live (found_at s))) 0 (i + 1)) l
    unfolding live
    one_more b g f =
        let r : get_or (live (found_at s)) i nobody ≡ cand_at s i = get_or-take (found_at s).count (found_at s).stack i nobody b ∙ cand-is s i (omega (arith, h.room)) in
        more (candidate_of (live (found_at s))) 0 i (omega arith) l e
        (f ∙ ap (λ (p : List Patch). run p t) (ap (candidate_patches compound i) g ∙ as_read i (cand_at s i) ∙ ap (candidate_patches compound i) (sym r)))

    pub all_laid : i ≡ (found_at s).count → t ≡ run (candidates_script compound (live (found_at s))) l
    unfolding candidates_script
    all_laid n = stop (candidate_of (live (found_at s))) 0 i (length (live (found_at s))) (omega (arith, in_use s h)) l e

  pub candidates-inside : (l : List Candidate) → length l ≤ 8 → Inside 0 96 (candidates_script compound l)
  unfolding candidates_script candidate_patches
  candidates-inside l h =
      inside (candidate_of l) 0 96 0 (length l)
      (λ i a b. (
        (omega arith, omega arith),
        inside-append 0 96 (second_patch compound i (get_or l i nobody).mv.second) _ (second-inside compound i (get_or l i nobody).mv.second (omega arith)) ((omega arith, omega arith), tt),
      ))

-- the slots that no candidate takes
pub fill-laid : (v : Mv) (i : ℕ) (s : List ℕ) {t : List ℕ} → t ≡ put s (12 * i) (mv_bytes v) → t ≡ run (fill_patch v i) s
unfolding run fill_patch
fill-laid v i s e = e

pub fills-inside : (v : Mv) (count : ℕ) → Inside 0 96 (fills_script v count)
unfolding fills_script fill_patch
fills-inside v count = inside (fill_patch v) 0 96 count 2 (λ i a b. ((omega arith, omega arith), tt))
