-- Refusal 11 is what it should be: the test says yes exactly where some cell is in both windows.
-- Assumes nothing.
use mathlib.Core.Path.{◌≡◌, refl, sym, ap, ap₂, ◌∙◌}
use mathlib.Core.Bool.{Bool, true, false, true≢false, ◌&&◌, ◌||◌}
use Prim.Native.Nat.{ℕ, ◌+◌, ◌-◌, ◌*◌, ◌%◌, ◌≤◌, ◌<◌, max, min}
use native.Mathlib.Decide.{dec_lt}
use native.Mathlib.Nat.{mod-lt, mul_assoc, add-mul}
use native.Mathlib.Omega.{arith}
use lib.Dec.{eqb, ltb}
use borrow.Author.Tests.{lt-ltb, le-ltb, ltb-true, eq-eqb, eqb-true}
use Rattle.ground.proofs.Picks.{both}
use Rattle.ground.proofs.Products.{one_place}
use Rattle.motion.specs.declared.saving.area.Strip.{Strip}
use Rattle.motion.specs.declared.saving.area.Window.{Window}
use Rattle.motion.specs.landing.Lands.{spot}
use Rattle.jobs.specs.job.Share.{LoadCell, SaveCell, overlap, within16, overlap16, loads_meet, saves_meet}

-- ---- numbers

pub overlap-is : (a e b f x : ℕ) → a ≤ x → x < e → b ≤ x → x < f → overlap a e b f ≡ true
unfolding overlap
overlap-is a e b f x h g k l = rw (lt-ltb a e (omega arith), lt-ltb b f (omega arith), lt-ltb a f (omega arith), lt-ltb b e (omega arith))

-- a number of both
pub record Common (a e b f : ℕ) : Type 0 where
  pub it : ℕ
  pub from : a ≤ it
  pub to : it < e
  pub first : b ≤ it
  pub last : it < f

pub overlap-one : (a e b f : ℕ) → overlap a e b f ≡ true → Common a e b f
unfolding overlap
overlap-one a e b f h =
    let p = both (ltb a e && ltb b f) (ltb a f && ltb b e) h in
    let q = both (ltb a e) (ltb b f) p.0 in
    let r = both (ltb a f) (ltb b e) p.1 in
    by (dec_lt a b) (ltb-true a e q.0) (ltb-true b f q.1) (ltb-true a f r.0) (ltb-true b e r.1)
  where
    by : Dec (a < b) → a < e → b < f → a < f → b < e → Common a e b f
    by (yes l) k m n o = record { it = b; from = omega arith; to = o; first = omega arith; last = m }
    by (no l) k m n o = record { it = a; from = omega arith; to = k; first = omega arith; last = n }

-- the later start lies before the earlier end
pub overlap-between : (a e b f : ℕ) → ltb (max a b) (min e f) ≡ overlap a e b f
overlap-between a e b f = by (dec_lt (max a b) (min e f)) (overlap a e b f) refl
  where
    by : Dec (max a b < min e f) → (x : Bool) → overlap a e b f ≡ x → ltb (max a b) (min e f) ≡ overlap a e b f
    by (yes l) x h = lt-ltb _ _ l ∙ sym (overlap-is a e b f (max a b) (omega arith) (omega (arith, l)) (omega arith) (omega (arith, l)))
    by (no l) true h = let c = overlap-one a e b f h in absurd (omega (arith, l, c.from, c.to, c.first, c.last))
    by (no l) false h = le-ltb _ _ (omega (arith, l)) ∙ sym h

-- ---- numbers modulo 16

within-is : (a n b d : ℕ) → d < n → n ≤ 16 → (a + d) % 16 ≡ b % 16 → within16 a n b ≡ true
unfolding within16
within-is a n b d h g e = lt-ltb ((b + 16 - a % 16) % 16) n (omega arith)

pub overlap16-is : (a e b f r t : ℕ) → a ≤ r → r < e → b ≤ t → t < f → e - a ≤ 16 → f - b ≤ 16 → r % 16 ≡ t % 16 → overlap16 a e b f ≡ true
unfolding overlap16
overlap16-is a e b f r t h g k l m n q = by (dec_lt (r - a) (t - b))
  where
    ok : ltb a e ≡ true
    ok = lt-ltb a e (omega arith)

    ok' : ltb b f ≡ true
    ok' = lt-ltb b f (omega arith)

    or_right : (x y : Bool) → y ≡ true → (x || y) ≡ true
    or_right true y z = refl
    or_right false y z = z

    by : Dec (r - a < t - b) → ((ltb a e && ltb b f) && (within16 a (e - a) b || within16 b (f - b) a)) ≡ true
    by (yes z) = rw (ok, ok') (or_right (within16 a (e - a) b) (within16 b (f - b) a) (within-is b (f - b) a (t - b - (r - a)) (omega arith) n (omega arith)))
    by (no z) = rw (ok, ok', within-is a (e - a) b (r - a - (t - b)) (omega arith) m (omega arith))

-- a number of each that are one modulo 16
pub record Alike (a e b f : ℕ) : Type 0 where
  pub one : ℕ
  pub other : ℕ
  pub from : a ≤ one
  pub to : one < e
  pub first : b ≤ other
  pub last : other < f
  pub same : one % 16 ≡ other % 16

pub overlap16-one : (a e b f : ℕ) → overlap16 a e b f ≡ true → Alike a e b f
unfolding overlap16 within16
overlap16-one a e b f h =
    let p = both (ltb a e && ltb b f) (within16 a (e - a) b || within16 b (f - b) a) h in
    let q = both (ltb a e) (ltb b f) p.0 in
    by (ltb ((b + 16 - a % 16) % 16) (e - a)) refl p.1 (ltb-true a e q.0) (ltb-true b f q.1)
  where
    by : (x : Bool) → ltb ((b + 16 - a % 16) % 16) (e - a) ≡ x → (x || ltb ((a + 16 - b % 16) % 16) (f - b)) ≡ true → a < e → b < f → Alike a e b f
    by true z u k l =
        let g = ltb-true ((b + 16 - a % 16) % 16) (e - a) z in
        record { one = a + (b + 16 - a % 16) % 16; other = b; from = omega arith; to = omega arith; first = omega arith; last = l; same = omega arith }
    by false z u k l =
        let g = ltb-true ((a + 16 - b % 16) % 16) (f - b) u in
        record { one = a; other = b + (a + 16 - b % 16) % 16; from = omega arith; to = k; first = omega arith; last = omega arith; same = omega arith }

-- ---- cells

-- what two windows of one frame have: one stride, columns within it, at most 16 rows, and each a part of 16 rows
pub record Framed (s : ℕ) (w : Window) : Type 0 where
  pub part : ℕ
  pub stride : w.stride.0 ≡ s
  pub start : w.part ≡ 16 * (part * s)
  pub columns : w.right.0 ≤ s
  pub rows : w.bottom.0 - w.top.0 ≤ 16

-- the cell's row of the buffer, counted from its start
pub place : (s : ℕ) (w : Window) (g : Framed s w) (r q : ℕ) → spot w r q ≡ (16 * g.part + r % 16) * s + q
unfolding spot
place s w g r q =
    let e = g.stride in
    let d : (16 * g.part + r % 16) * s ≡ 16 * (g.part * s) + r % 16 * s = spread g.part (r % 16) s in
    ap₂ (λ (x y : ℕ). x + r % 16 * y + q) g.start e ∙ omega arith
  where
    spread : (p k s : ℕ) → (16 * p + k) * s ≡ 16 * (p * s) + k * s
    spread p k s = add-mul (16 * p) k s ∙ ap (λ (n : ℕ). n + k * s) (mul_assoc 16 p s)

pub loads-apart : (s : ℕ) (w v : Window) → Framed s w → Framed s v → loads_meet w v ≡ false → (c : ℕ) → LoadCell w c → LoadCell v c → ⊥
unfolding loads_meet
loads-apart s w v g h z c x y =
    let e = one_place s (16 * g.part + x.row % 16) x.col (16 * h.part + y.row % 16) y.col (omega (arith, x.right, g.columns)) (omega (arith, y.right, h.columns)) (sym (place s w g x.row x.col) ∙ sym x.is ∙ y.is ∙ place s v h y.row y.col) in
    let k = mod-lt x.row {m = 16} (omega arith) in
    let l = mod-lt y.row {m = 16} (omega arith) in
    let p : g.part ≡ h.part = omega (arith, e.0) in
    let t : w.part ≡ v.part = g.start ∙ ap (λ (n : ℕ). 16 * (n * s)) p ∙ sym h.start in
    let u = overlap16-is w.top.0 w.bottom.0 v.top.0 v.bottom.0 x.row y.row x.from x.to y.from y.to g.rows h.rows (omega (arith, e.0)) in
    let o = overlap-is w.left.0 w.right.0 v.left.0 v.right.0 x.col x.left x.right (omega (arith, e.1, y.left)) (omega (arith, e.1, y.right)) in
    true≢false (sym (all (eq-eqb w.part v.part t) u o) ∙ z)
  where
    all : {a b c : Bool} → a ≡ true → b ≡ true → c ≡ true → (a && (b && c)) ≡ true
    all i j k = rw (i, j, k)

pub loads-share : (s : ℕ) (w v : Window) → Framed s w → Framed s v → loads_meet w v ≡ true → (c : ℕ) × LoadCell w c × LoadCell v c
unfolding loads_meet spot
loads-share s w v g h z =
    let p = both (eqb w.part v.part) (overlap16 w.top.0 w.bottom.0 v.top.0 v.bottom.0 && overlap w.left.0 w.right.0 v.left.0 v.right.0) z in
    let q = both (overlap16 w.top.0 w.bottom.0 v.top.0 v.bottom.0) (overlap w.left.0 w.right.0 v.left.0 v.right.0) p.1 in
    let r = overlap16-one w.top.0 w.bottom.0 v.top.0 v.bottom.0 q.0 in
    let k = overlap-one w.left.0 w.right.0 v.left.0 v.right.0 q.1 in
    let e = eqb-true w.part v.part p.0 in
    let f = g.stride ∙ sym h.stride in
    let m : spot w r.one k.it ≡ spot v r.other k.it = (λ i. e i + r.same i * f i + k.it) in (
      spot w r.one k.it,
      record { row = r.one; col = k.it; from = r.from; to = r.to; left = k.from; right = k.to; is = refl },
      record { row = r.other; col = k.it; from = r.first; to = r.last; left = k.first; right = k.last; is = m },
    )

-- of saves
pub record Walked (s : ℕ) (w : Strip) : Type 0 where
  pub stride : w.stride.0 ≡ s
  pub columns : w.limit.0 ≤ s

pub saves-apart : (s : ℕ) (w v : Strip) → Walked s w → Walked s v → saves_meet w v ≡ false → (c : ℕ) → SaveCell w c → SaveCell v c → ⊥
unfolding saves_meet
saves-apart s w v g h z c x y =
    let e = one_place s x.row x.col y.row y.col (omega (arith, x.right, g.columns)) (omega (arith, y.right, h.columns)) (sym (ap (λ (n : ℕ). x.row * n + x.col) g.stride) ∙ sym x.is ∙ y.is ∙ ap (λ (n : ℕ). y.row * n + y.col) h.stride) in
    let u = overlap-is w.top.0 w.bottom.0 v.top.0 v.bottom.0 x.row x.from x.to (omega (arith, e.0, y.from)) (omega (arith, e.0, y.to)) in
    let o = overlap-is w.left.0 w.limit.0 v.left.0 v.limit.0 x.col x.left x.right (omega (arith, e.1, y.left)) (omega (arith, e.1, y.right)) in
    true≢false (sym (all u o) ∙ z)
  where
    all : {a b : Bool} → a ≡ true → b ≡ true → (a && b) ≡ true
    all i j = rw (i, j)

pub saves-share : (s : ℕ) (w v : Strip) → Walked s w → Walked s v → saves_meet w v ≡ true → (c : ℕ) × SaveCell w c × SaveCell v c
unfolding saves_meet
saves-share s w v g h z =
    let p = both (overlap w.top.0 w.bottom.0 v.top.0 v.bottom.0) (overlap w.left.0 w.limit.0 v.left.0 v.limit.0) z in
    let r = overlap-one w.top.0 w.bottom.0 v.top.0 v.bottom.0 p.0 in
    let k = overlap-one w.left.0 w.limit.0 v.left.0 v.limit.0 p.1 in (
      r.it * w.stride.0 + k.it,
      record { row = r.it; col = k.it; from = r.from; to = r.to; left = k.from; right = k.to; is = refl },
      record { row = r.it; col = k.it; from = r.first; to = r.last; left = k.first; right = k.last; is = ap (λ (n : ℕ). r.it * n + k.it) (g.stride ∙ sym h.stride) },
    )
