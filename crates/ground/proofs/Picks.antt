-- A choice whose test is known, and two tests that mean the same.
-- Assumes nothing.
use mathlib.Core.Path.{◌≡◌, refl, sym, ap}
use mathlib.Core.Bool.{Bool, true, false, ◌&&◌, ◌||◌, and-eq-true_iff, true≢false}
use Rattle.ground.specs.Pick.{pick}

pub pick_true : {A : Type 0} {t : Bool} {a : A} (b : A) → t ≡ true → pick t a b ≡ a
pick_true {A} {t} {a} b e = ap (λ (u : Bool). pick u a b) e

pub pick-false : {A : Type 0} {t : Bool} (a : A) {b : A} → t ≡ false → pick t a b ≡ b
pick-false {A} {t} a {b} e = ap (λ (u : Bool). pick u a b) e

-- tests joined, from the first that decides
pub and-on : {s t : Bool} → s ≡ true → (s && t) ≡ t
and-on {s} {t} e = ap (λ (u : Bool). u && t) e

pub and-off : {s : Bool} (t : Bool) → s ≡ false → (s && t) ≡ false
and-off {s} t e = ap (λ (u : Bool). u && t) e

-- whichever of the two fails
pub and_last : (s : Bool) {t : Bool} → t ≡ false → (s && t) ≡ false
and_last true e = e
and_last false e = refl

-- both of two tests that are joined
pub both : (s t : Bool) → (s && t) ≡ true → (s ≡ true) × (t ≡ true)
both s t = (and-eq-true_iff s t).0

pub or-on : {s : Bool} (t : Bool) → s ≡ true → (s || t) ≡ true
or-on {s} t e = ap (λ (u : Bool). u || t) e

pub or_off : {s t : Bool} → s ≡ false → (s || t) ≡ t
or_off {s} {t} e = ap (λ (u : Bool). u || t) e

-- neither of two tests
pub neither : (s t : Bool) → (s || t) ≡ false → (s ≡ false) × (t ≡ false)
neither true t e = absurd (true≢false e)
neither false t e = (refl, e)

-- two tests are equal where each gives the other
pub agree : (s t : Bool) → (s ≡ true → t ≡ true) → (t ≡ true → s ≡ true) → s ≡ t
agree true t f g = sym (f refl)
agree false true f g = g refl
agree false false f g = refl
