-- What the notes and `add_spatial` make of what was found.
-- Assumes nothing.
use mathlib.Core.Path.{◌≡◌, refl, ap, ◌∙◌}
use mathlib.Core.Bool.{Bool, true, false, ◌||◌, not, or-true, or-false}
use mathlib.Core.List.{List}
use Prim.Native.Nat.{ℕ}
use lib.ListN.{length}
use Rattle.std.specs.Prelude.{Option, None, Some}
use Rattle.ground.specs.Pick.{pick}
use Rattle.cells.specs.declared.block.Block.{Block}
use Rattle.cells.specs.Block.{MvPair}
use Rattle.stack.specs.Stack.{State, joined}
use Rattle.stack.specs.Code.Found.{Found, live, view, heft}
use Rattle.stack.specs.Code.Numbers.{flagged, found_at, view_at, heft_at, Held}
use Rattle.stack.specs.declared.numbers.Flag.TheVariants.{NewMv}
use Rattle.spatial.specs.declared.neighbours.want.Want.{Want}
use Rattle.spatial.specs.neighbours.Want.{offer_of}
use Rattle.spatial.specs.Take.{new_mode, noted, spatial}
use Rattle.spatial.specs.Code.Take.{mode_flag, side_flag}

-- both flags, one after the other: the candidates stay
flags : (down : Bool) (mf : ℕ) (s : Found)
    → ((side_flag down (mode_flag mf s)).count ≡ s.count) × (view (side_flag down (mode_flag mf s)) ≡ noted down mf (view s))
    × (live (side_flag down (mode_flag mf s)) ≡ live s)
unfolding view live noted
flags down mf s = by down (new_mode mf)
  where
    after : Bool → Bool → Found
    after d n = side_flag d (pick n (flagged NewMv s) s)

    told : Bool → Bool → State
    told d n = record { cands = live s; newmv = s.newmv || n; above = s.above || not d; left = s.left || d }

    by : (d n : Bool) → ((after d n).count ≡ s.count) × (view (after d n) ≡ told d n) × (live (after d n) ≡ live s)
    by true true = rw (or-true s.newmv, or-false s.above, or-true s.left) (refl, refl, refl)
    by true false = rw (or-false s.newmv, or-false s.above, or-true s.left) (refl, refl, refl)
    by false true = rw (or-true s.newmv, or-true s.above, or-false s.left) (refl, refl, refl)
    by false false = rw (or-false s.newmv, or-true s.above, or-false s.left) (refl, refl, refl)

-- the same in the lent numbers, of which there are as many as before
pub notes : (down : Bool) (mf : ℕ) (k l m : List ℕ) → Held k → found_at l ≡ mode_flag mf (found_at k) → found_at m ≡ side_flag down (found_at l)
    → length m ≡ length k → Held m × (view_at m ≡ noted down mf (view_at k)) × (heft_at m ≡ heft_at k)
notes down mf k l m h e d n =
    let f : found_at m ≡ side_flag down (mode_flag mf (found_at k)) = d ∙ ap (side_flag down) e in
    let t = flags down mf (found_at k) in
    (record { size = n ∙ h.size; room = rw (f, t.0) h.room }, ap view f ∙ t.1, ap (λ (s : Found). heft (live s)) f ∙ ap heft t.2)

-- the two cases of an offer
module _ (down : Bool) (w : ℕ) (k : Block) (q : Want) (s : State) {o : Option MvPair} (e : o ≡ offer_of k q) where
  pub none : o ≡ None → s ≡ spatial down w k q s
  unfolding spatial
  none n = rw (← e, n)

  pub some : {p : MvPair} → o ≡ Some p → noted down k.mf (joined s p w) ≡ spatial down w k q s
  unfolding spatial
  some n = rw (← e, n)
