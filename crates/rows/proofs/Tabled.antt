-- The row table's rule: which rows its entries stand for, and an entry of the table by it.
-- Assumes nothing.
use mathlib.Core.Path.{◌≡◌, refl, sym, subst, ◌∙◌}
use mathlib.Core.Logic.{◌⊎◌, inl, inr}
use mathlib.Core.Bool.{Bool, true, false, ◌||◌, ◌&&◌}
use mathlib.Core.List.{List}
use Prim.Native.Nat.{ℕ, ◌+◌, ◌-◌, ◌*◌, ◌≤◌, ◌<◌}
use native.Mathlib.Nat.{zero-add, add-mul, mul-le-mul_right}
use native.Mathlib.Omega.{arith}
use lib.Dec.{eqb, ltb, leb}
use lib.ListN.{get_or}
use borrow.Author.Tests.{lt-ltb, eqb-true, ltb-true}
use Rattle.ground.specs.Pick.{pick}
use Rattle.ground.proofs.Picks.{both, pick_true}
use Rattle.ground.proofs.Tabs.{tab-at}
use Rattle.frame.specs.extent.Sizes.{superblock}
use Rattle.std.specs.Prelude.{Option, None, Some}
use Rattle.rows.specs.declared.table.RowEntry.{RowEntry}
use Rattle.rows.specs.Table.{none, row_of, partner, offset_of, row_at, entry_at, table_of, place_at}

-- a superblock's side
pub sides : (n : ℕ) → superblock n ≡ true → (n ≡ 16) ⊎ (n ≡ 32)
unfolding superblock
sides n e = by (eqb n 16) refl e
  where
    by : (b : Bool) → eqb n 16 ≡ b → (b || eqb n 32) ≡ true → (n ≡ 16) ⊎ (n ≡ 32)
    by true h f = inl (eqb-true n 16 h)
    by false h f = inr (eqb-true n 32 f)

pub side-most : (n : ℕ) → superblock n ≡ true → n ≤ 32
side-most n e = by (sides n e)
  where
    by : (n ≡ 16) ⊎ (n ≡ 32) → n ≤ 32
    by (inl h) = omega arith
    by (inr h) = omega arith

pub off-fits : (n : ℕ) (odd : Bool) → superblock n ≡ true → offset_of n odd + n + 5 ≤ 37
unfolding offset_of
off-fits n odd e = by odd (sides n e)
  where
    by : (odd : Bool) → (n ≡ 16) ⊎ (n ≡ 32) → offset_of n odd + n + 5 ≤ 37
    by true (inl e) = rw e (omega arith)
    by true (inr e) = rw e (omega arith)
    by false (inl e) = omega arith
    by false (inr e) = omega arith

-- an entry stands for one of n + 3 rows
abbrev Low : ℕ → Option ℕ → Type 0
Low n None = Unit
Low n (Some j) = j ≤ n + 2

line_low : (n e : ℕ) → Low n (row_of n e)
unfolding row_of
line_low n e = by (eqb e 0) (eqb e 2) (eqb e 4) (leb 5 e && ltb e (n + 5)) refl
  where
    by : (a b c d : Bool) → (leb 5 e && ltb e (n + 5)) ≡ d
        → Low n (pick a (Some n) (pick b (Some (n + 1)) (pick c (Some (n + 2)) (pick d (Some (e - 5)) None))))
    by true b c d h = omega arith
    by false true c d h = omega arith
    by false false true d h = omega arith
    by false false false true h = let k = ltb-true e (n + 5) (both (leb 5 e) (ltb e (n + 5)) h).1 in omega arith
    by false false false false h = tt

row_low : (n : ℕ) (odd : Bool) (e : ℕ) → Low n (row_at n odd e)
unfolding row_at
row_low n odd e = by (ltb e (offset_of n odd))
  where
    by : (b : Bool) → Low n (pick b None (row_of n (pick odd (partner n (e - offset_of n odd)) (e - offset_of n odd))))
    by true = tt
    by false = line_low n (pick odd (partner n (e - offset_of n odd)) (e - offset_of n odd))

-- so its place is no larger a number than the last row's
pub row-most : (n : ℕ) (odd : Bool) (e stride : ℕ) {p : Option ℕ} {j : ℕ} → p ≡ row_at n odd e → p ≡ Some j → j * stride ≤ n * stride + 2 * stride
row-most n odd e stride {j = j} r a =
    let l : Low n (Some j) = subst (Low n) (sym r ∙ a) (row_low n odd e) in
    omega (arith, mul-le-mul_right stride l, add-mul n 2 stride)

pub entry : (n : ℕ) (odd : Bool) (first stride k : ℕ) → k < 37 → place_at (table_of n odd first stride) k ≡ (entry_at n odd first stride k).at
unfolding table_of place_at
entry n odd first stride k h =
    rw (lt-ltb k 37 h, tab-at (entry_at n odd first stride) none 0 37 k h, zero-add k)

-- an entry of the table is a place
pub entry-at : (rows : List RowEntry) (e : ℕ) → e < 37 → (get_or rows e none).at ≡ place_at rows e
unfolding place_at
entry-at rows e h = sym (pick_true None (lt-ltb e 37 h))
