-- A capture file's bytes (document 01, "Capture file"): one byte E, E entries of 9 bytes (kind, offset, length), then the bodies.
use Rattle.std.specs.Prelude.{ℕ, zero, suc, ◌+◌, ◌-◌, ◌*◌, ◌%◌, Bool, ◌&&◌, not, List, [], eqb, leb, ltb, length, get_or, take, drop, Option, Some, None, Result, Ok, Err}
use Rattle.ground.specs.Below.{all_below}
use Rattle.ground.specs.Little.{four_at}
use Rattle.ground.specs.Pick.{pick}
use Rattle.jobs.specs.job.Bytes.{capture_job}
use Rattle.capture.specs.declared.file.Malformed.{Malformed}
use Rattle.capture.specs.declared.file.Span.{Span}

abbrev pub entries : List ℕ → ℕ
entries f = get_or f 0 0

abbrev pub kind_at : List ℕ → ℕ → ℕ
kind_at f i = get_or f (1 + 9 * i) 0

abbrev pub offset_at : List ℕ → ℕ → ℕ
offset_at f i = four_at f (2 + 9 * i)

abbrev pub length_at : List ℕ → ℕ → ℕ
length_at f i = four_at f (6 + 9 * i)

-- E is 1..32, and the entries are there
unfoldable pub has_entries : List ℕ → Bool
has_entries f = leb 1 (entries f) && leb (entries f) 32 && leb (1 + 9 * entries f) (length f)

-- The bodies lie in entry order, without gaps, from behind the entries to the file's end: where entry i's has to start, and that all do.
unfoldable pub start_of : List ℕ → ℕ → ℕ
start_of f zero = 1 + 9 * entries f
start_of f (suc i) = start_of f i + length_at f i

unfoldable pub tiled : List ℕ → Bool
tiled f = all_below (entries f) (λ i. eqb (offset_at f i) (start_of f i)) && eqb (start_of f (entries f)) (length f)

-- A description has 67 bytes. Bodies hold whole jobs of 13 bytes, records of 12 and cells of 5; other kinds are refused.
unfoldable pub is_field : ℕ → Bool
is_field k = leb 16 k && leb k 22

unfoldable pub whole_body : (kind n : ℕ) → Bool
whole_body k n =
    pick (eqb k 1) (eqb n 67) (pick (eqb k 2) (eqb (n % capture_job) 0) (pick (eqb k 4) (eqb (n % 12) 0) (is_field k && eqb (n % 5) 0)))

unfoldable pub kinds : List ℕ → Bool
kinds f = all_below (entries f) (λ i. whole_body (kind_at f i) (length_at f i))

-- no kind comes twice
unfoldable pub is_new : List ℕ → ℕ → Bool
is_new f j = all_below j (λ i. not (eqb (kind_at f i) (kind_at f j)))

unfoldable pub once : List ℕ → Bool
once f = all_below (entries f) (is_new f)

-- the number of the first entry of kind k; E where there is none
unfoldable pub seek : List ℕ → ℕ → (n i : ℕ) → ℕ
seek f k zero i = i
seek f k (suc n) i = pick (eqb (kind_at f i) k) i (seek f k n (suc i))

unfoldable pub entry_of : List ℕ → ℕ → ℕ
entry_of f k = seek f k (entries f) 0

-- the same as code looks for it
unfoldable pub found : List ℕ → ℕ → Option ℕ
found f k = pick (ltb (entry_of f k) (entries f)) (Some (entry_of f k)) None

-- A FILE THAT BREAKS ANY RULE IS MALFORMED: besides those above, kind 1 comes first, and kind 2 comes.
unfoldable pub well_file : List ℕ → Bool
well_file f = has_entries f && tiled f && kinds f && once f && eqb (kind_at f 0) 1 && ltb (entry_of f 2) (entries f)

-- what stands there for kind k: an error for a malformed file, none for an absent kind, or where the body starts and ends
abbrev pub Scan : Type 0
Scan = Result (Option Span) Malformed

unfoldable pub scan_of : List ℕ → ℕ → Scan
scan_of f k =
    pick (not (well_file f)) (Err (record {}))
    (pick (ltb (entry_of f k) (entries f)) (Ok (Some (record { start = start_of f (entry_of f k); end = start_of f (suc (entry_of f k)) }))) (Ok None))

-- the bytes from start up to end, where they are there
unfoldable pub part_of : List ℕ → (start end : ℕ) → List ℕ
part_of f start end = pick (ltb end start) [] (pick (ltb (length f) end) [] (take (end - start) (drop start f)))

abbrev pub body_at : List ℕ → Scan → List ℕ
body_at f (Err _) = []
body_at f (Ok None) = []
body_at f (Ok (Some r)) = part_of f r.start r.end

-- THE BODY OF KIND k, nothing for an absent kind or a malformed file
abbrev pub body_of : List ℕ → ℕ → List ℕ
body_of f k = body_at f (scan_of f k)
