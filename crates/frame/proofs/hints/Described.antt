-- What an accepted description tells of its numbers.
-- Assumes nothing.
use mathlib.Core.Path.{◌≡◌, refl}
use mathlib.Core.Bool.{Bool, true, false}
use mathlib.Core.List.{List}
use Prim.Native.Nat.{ℕ, ◌^◌, ◌≤◌, ◌<◌}
use native.Mathlib.Omega.{arith}
use lib.ListN.{length, get_or}
use borrow.Author.Tests.{ltb-true, leb-true}
use Rattle.ground.specs.Pick.{pick}
use Rattle.ground.proofs.Belows as belows
use Rattle.frame.specs.hints.Description.{under, flags, hinted, sized, setup_answer, hint_at}
use Rattle.frame.specs.extent.Sizes.{limits}
use Rattle.frame.specs.declared.hints.description.Description.{Description}
use Rattle.ground.proofs.Picks.{both}

-- any one of them
pub under_at : (xs : List ℕ) (limit i : ℕ) → under xs limit ≡ true → i < length xs → get_or xs i 0 < limit
unfolding under
under_at xs limit i h l = ltb-true (get_or xs i 0) limit (belows.at _ (length xs) i h l)

-- all that a test of the hints tells
pub record Hints (d : Description) : Type 0 where
  pub bits : d.hint_bits ≤ 8
  pub current : d.current_hint < 2 ^ d.hint_bits
  pub hints : under d.hints (2 ^ d.hint_bits) ≡ true
  pub held : under d.hints_by_ref (2 ^ d.hint_bits) ≡ true

pub hints : (d : Description) → hinted d ≡ true → Hints d
unfolding hinted
hints d e =
    let p = both _ _ e in
    let q = both _ _ p.0 in
    let r = both _ _ q.0 in
    record { bits = leb-true _ _ r.0; current = ltb-true _ _ r.1; hints = q.1; held = p.1 }

-- each hint is below 2 ^ bits
pub hint-fits : (d : Description) (r : ℕ) {h : ℕ} → hinted d ≡ true → h ≡ hint_at d r → r < length d.hints → h < 2 ^ d.hint_bits
unfolding hint_at
hint-fits d r e i l = let k = under_at d.hints (2 ^ d.hint_bits) r (hints d e).hints l in omega arith

-- a hint that is read where the hints were lent
pub lent-hint : (d : Description) (r : ℕ) {xs : List ℕ} {i h : ℕ} → xs ≡ d.hints → i ≡ r → h ≡ get_or xs i 0 → h ≡ hint_at d r
unfolding hint_at
lent-hint d r l e q = rw (q, e, l)

-- what acceptance tells
passes : (s t : Bool) → ◌≡◌ {A = ℕ} (pick s (pick t 0 2) 1) 0 → (s ≡ true) × (t ≡ true)
passes true true e = (refl, refl)
passes true false e = absurd (omega arith)
passes false t e = absurd (omega arith)

pub accepted-limits : (d : Description) (present : List ℕ) → setup_answer d present ≡ 0
    → limits d.width d.height d.tile_rows d.tile_threads d.frame_threads ≡ true
unfolding setup_answer sized
accepted-limits d present e = (both _ _ (passes (sized d present) (hinted d) e).0).0

pub accepted-flags : (d : Description) (present : List ℕ) → setup_answer d present ≡ 0 → flags d present ≡ true
unfolding setup_answer sized
accepted-flags d present e =
    (both (limits d.width d.height d.tile_rows d.tile_threads d.frame_threads) (flags d present)
    (passes (sized d present) (hinted d) e).0).1

pub accepted-hints : (d : Description) (present : List ℕ) → setup_answer d present ≡ 0 → hinted d ≡ true
unfolding setup_answer
accepted-hints d present e = (passes (sized d present) (hinted d) e).1
