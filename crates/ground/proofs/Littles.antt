-- A number of four bytes that was laid down, and read again.
-- Assumes nothing.
use mathlib.Core.Path.{◌≡◌, sym, ap, ◌∙◌}
use mathlib.Core.List.{List, [], ◌∷◌}
use Prim.Native.Nat.{ℕ, suc, ◌+◌, ◌*◌, ◌/◌, ◌%◌, ◌^◌, ◌≤◌, ◌<◌}
use native.Mathlib.Nat.{add-zero, div-div-eq-div-mul, div-add-mod'}
use native.Mathlib.Numerals.{add-one}
use native.Mathlib.Omega.{arith}
use lib.ListN.{length, get_or, drop}
use lib.Seq.{drop-cons, drop-length}
use Rattle.ground.specs.Put.{put}
use Rattle.ground.specs.Little.{four, four_at, four_bytes, fours}
use Rattle.ground.proofs.Puts.{put-append, put-inside}

-- a number by its bytes: q, r and s are what is left above each
by_bytes : (n q r s a b c d : ℕ) → q * 256 + a ≡ n → r * 256 + b ≡ q → s * 256 + c ≡ r → s ≡ d → four a b c d ≡ n
by_bytes n q r s a b c d e f g h = omega arith

pub four-whole : (n : ℕ) → n < 2 ^ 32 → four (n % 256) (n / 256 % 256) (n / 65536 % 256) (n / 16777216 % 256) ≡ n
four-whole n h =
    let s = n / 16777216 in
    let e : s ≡ s % 256 = omega arith in
    by_bytes n (n / 256) (n / 65536) s (n % 256) (n / 256 % 256) (n / 65536 % 256) (s % 256)
    (div-add-mod' n 256)
    (ap (λ (k : ℕ). k * 256 + n / 256 % 256) (sym (div-div-eq-div-mul n 256 256)) ∙ div-add-mod' (n / 256) 256)
    (ap (λ (k : ℕ). k * 256 + n / 65536 % 256) (sym (div-div-eq-div-mul n 65536 256)) ∙ div-add-mod' (n / 65536) 256)
    e

-- the number whose four bytes are known
pub four_is : (n a b c d : ℕ) → n < 2 ^ 32 → four_bytes n ≡ a ∷ b ∷ c ∷ d ∷ [] → n ≡ four a b c d
four_is n a b c d h e =
    sym (four-whole n h) ∙ ap (λ (l : List ℕ). four (get_or l 0 0) (get_or l 1 0) (get_or l 2 0) (get_or l 3 0)) e

pub four-back : (l : List ℕ) (i n : ℕ) → i + 4 ≤ length l → n < 2 ^ 32 → four_at (put l i (four_bytes n)) i ≡ n
four-back l i n h k =
    let a : get_or (put l i (four_bytes n)) i 0 ≡ n % 256 = rw add-zero at (put-inside l i (four_bytes n) 0 0 (omega arith) h) in
    let b : get_or (put l i (four_bytes n)) (i + 1) 0 ≡ n / 256 % 256 = put-inside l i (four_bytes n) 1 0 (omega arith) h in
    let c : get_or (put l i (four_bytes n)) (i + 2) 0 ≡ n / 65536 % 256 = put-inside l i (four_bytes n) 2 0 (omega arith) h in
    let d : get_or (put l i (four_bytes n)) (i + 3) 0 ≡ n / 16777216 % 256 = put-inside l i (four_bytes n) 3 0 (omega arith) h in
    rw (a, b, c, d) (four-whole n k)

-- a loop that lays numbers: one more of them, and none left
pub fours-on : (s t : List ℕ) (at i : ℕ) (ns : List ℕ) → i < length ns → t ≡ put s (at + 4 * i) (four_bytes (get_or ns i 0))
    → put t (at + 4 * (i + 1)) (fours (drop (i + 1) ns)) ≡ put s (at + 4 * i) (fours (drop i ns))
unfolding fours
fours-on s t at i ns h e =
    let k : at + 4 * (i + 1) ≡ at + 4 * i + 4 = omega arith in
    rw (e, k, drop-cons ns i 0 h, add-one i)
    (sym (put-append s (at + 4 * i) (four_bytes (get_or ns i 0)) (fours (drop (suc i) ns))))

pub fours-done : (s : List ℕ) (at i : ℕ) (ns : List ℕ) → length ns ≤ i → i ≤ length ns → put s at (fours (drop i ns)) ≡ s
unfolding fours put
fours-done s at i ns h k = let e : i ≡ length ns = omega arith in rw (e, drop-length ns)
