-- A search's plan: candidates laid into eight records one by one, which plan each way of a search gives, how many records it stores to, and what each
-- holds then.
-- Assumes nothing.
use mathlib.Core.Path.{◌≡◌, refl, sym, ap, ◌∙◌}
use mathlib.Core.Bool.{Bool, true, false, true≢false}
use mathlib.Core.List.{List, [], ◌∷◌}
use Prim.Native.Nat.{ℕ, zero, suc, ◌+◌, ◌%◌, ◌^◌, ◌≤◌, ◌<◌}
use native.Mathlib.Nat.{zero-add}
use native.Mathlib.Numerals.{add-one}
use native.Mathlib.Omega.{arith}
use lib.Dec.{eqb}
use lib.ListN.{length, get_or, set, take, length-set}
use lib.Seq.{ext_get_or, get_or-take, get_or-set_same, get_or-set_other, take_all, take-nil}
use borrow.Author.Tests.{ltb-false, eqb-true, eqb-false}
use Rattle.ground.specs.Pick.{pick}
use Rattle.ground.specs.Tab.{tab}
use Rattle.ground.proofs.Picks.{neither}
use Rattle.ground.proofs.Tabs.{tab-at, tab-length}
use Rattle.vector.specs.Vector as vector
use Rattle.layout.specs.FrameBytes.{frame_at}
use Rattle.layout.specs.TileBytes.{tile_at}
use Rattle.stack.specs.declared.candidate.Candidate.{Candidate}
use Rattle.stack.specs.Code.Found.{Found, live}
use Rattle.stack.specs.Stack.{nobody}
use Rattle.stack.specs.Code.Numbers.{cand_at, found_at, Held}
use Rattle.stack.proofs.Adds.{in_use}
use Rattle.stack.proofs.Helds.{cand-is}
use Rattle.cells.specs.Cell.{is_ref}
use Rattle.search.specs.declared.front.ask.Ask.{Ask}
use Rattle.search.specs.declared.find.Findings.{Findings}
use Rattle.search.specs.Find.{SearchOutcome, refused, got, find_of}
use Rattle.search.specs.Code.Find.{finding}
use Rattle.search.proofs.Finds.{is-refused, is-got}
use Rattle.search.specs.declared.candidates.plan.SearchAnswer.{SearchAnswer}
use Rattle.search.specs.declared.candidates.plan.SearchAnswer.TheVariants as answer
use Rattle.search.specs.declared.candidates.plan.Plan.{Plan}
use Rattle.search.specs.candidates.Each.{map_from}
use Rattle.search.specs.candidates.Plan.{recorded, eight, answer_of, plan_for, lacking, found_in, plan_of, slot_of, stored}
use Rattle.search.proofs.candidates.Eaches.{map_from-none, get_or-map_from, get_or-past}

-- one element more of a list changes what stands at its place alone
others : (l : List Candidate) (i k : ℕ) → (k ≡ i → ⊥) → get_or (take (suc i) l) k nobody ≡ get_or (take i l) k nobody
others [] i k n = ap (λ (m : List Candidate). get_or m k nobody) (sym (take-nil i))
others (x ∷ xs) zero zero n = absurd (n refl)
others (x ∷ xs) zero (suc k) n = refl
others (x ∷ xs) (suc i) zero n = refl
others (x ∷ xs) (suc i) (suc k) n = others xs i k (λ e. n (ap suc e))

abbrev slots : List Candidate → ℕ → Candidate
slots l i = recorded (get_or l i nobody)

module _ (l : List Candidate) (i : ℕ) (few : i < 8) where
  laid_by : (k : ℕ) → k < 8 → (b : Bool) → eqb k i ≡ b → get_or (set (eight (take i l)) i (slots l i)) k nobody ≡ get_or (eight (take (suc i) l)) k nobody
  unfolding eight
  laid_by k h true e =
      let n = tab-length (slots (take i l)) 0 8 in
      rw (eqb-true k i e, get_or-set_same (tab (slots (take i l)) 0 8) i (slots l i) nobody (omega arith), tab-at (slots (take (suc i) l)) nobody 0 8 i few, zero-add i, get_or-take (suc i) l i nobody (omega arith))
  laid_by k h false e =
      rw (get_or-set_other (tab (slots (take i l)) 0 8) i k (slots l i) nobody (eqb-false k i e), tab-at (slots (take i l)) nobody 0 8 k h, tab-at (slots (take (suc i) l)) nobody 0 8 k h, zero-add k, others l i k (eqb-false k i e))

  laid : set (eight (take i l)) i (slots l i) ≡ eight (take (suc i) l)
  unfolding eight
  laid =
      let n = length-set (tab (slots (take i l)) 0 8) i (slots l i) ∙ tab-length (slots (take i l)) 0 8 in
      ext_get_or nobody (set (eight (take i l)) i (slots l i)) (eight (take (suc i) l)) (n ∙ sym (tab-length (slots (take (suc i) l)) 0 8))
      (λ k b. laid_by k (omega (arith, n)) (eqb k i) refl)

-- The loop over the candidates that the numbers hold: before it, a turn, and behind it.
pub none-laid : (l : List Candidate) {c : Candidate} → c ≡ nobody → c ∷ c ∷ c ∷ c ∷ c ∷ c ∷ c ∷ c ∷ [] ≡ eight (take 0 l)
unfolding eight tab
none-laid l e = rw e

module _ (s : List ℕ) (h : Held s) (i : ℕ) {t : List Candidate} (e : t ≡ eight (take i (live (found_at s)))) where
  pub one-laid : i < (found_at s).count → {c : Candidate} → c ≡ record { mv = (cand_at s i).mv; weight = (cand_at s i).weight % 2 ^ 32 }
      → set t i c ≡ eight (take (i + 1) (live (found_at s)))
  unfolding live
  one-laid b g =
      let few = h.room in
      let r : get_or (live (found_at s)) i nobody ≡ cand_at s i = get_or-take (found_at s).count (found_at s).stack i nobody b ∙ cand-is s i (omega arith) in
      rw (e, g, add-one i, ← r) (laid (live (found_at s)) i (omega arith))

  pub all_laid : i ≡ (found_at s).count → t ≡ eight (live (found_at s))
  all_laid n = e ∙ ap eight (take_all i (live (found_at s)) (omega (arith, in_use s h)))

-- what is made of a refusal, and of what was found
pub refuses : (compound : Bool) (n : ℕ) {c : Candidate} → c ≡ nobody
    → ◌≡◌ {A = Plan} (record { n = 0; found = record { stack = c ∷ c ∷ c ∷ c ∷ c ∷ c ∷ c ∷ c ∷ []; count = 0; compound = compound; fill = vector.zero }; answer = answer.Refused n }) (plan_for compound (refused n))
unfolding plan_for eight tab
refuses compound n e = rw e

pub accepts : (r : Findings) (s : List ℕ) → Held s → r.answer ≡ 0 → (compound : Bool) {l : List Candidate} {n : ℕ} → l ≡ eight (live (found_at s)) → n ≡ (found_at s).count
    → ◌≡◌ {A = Plan} (record { n = 8; found = record { stack = l; count = n; compound = compound; fill = r.fill }; answer = answer.Found n r.context })
    (plan_for compound (finding r (found_at s)))
unfolding plan_for
accepts r s h z compound e k = rw (is-got r (found_at s) z, e, k, in_use s h)

-- nothing is lacking
pub enough : (slots frame tile : ℕ) → lacking slots frame tile ≡ false → (8 ≤ slots) × (109 ≤ frame) × (168 ≤ tile)
unfolding lacking
enough slots frame tile e =
    let a = neither _ _ e in
    let b = neither _ _ a.1 in
    (ltb-false slots 8 a.0, ltb-false frame 109 b.0, ltb-false tile 168 b.1)

module _ (slots : ℕ) (frame tile recs proj : List ℕ) (a : Ask) {compound : Bool} (c : compound ≡ is_ref a.refs.second) where
  pub lacks : lacking slots (length frame) (length tile) ≡ true → plan_for compound (refused 4) ≡ plan_of slots frame tile recs proj a
  unfolding plan_of found_in
  lacks e = rw (c, e)

  module _ (e : lacking slots (length frame) (length tile) ≡ false) (r : Findings) (q : Found) (f : finding r q ≡ find_of (frame_at frame) (tile_at tile) recs proj a) where
    pub finds : plan_for compound (finding r q) ≡ plan_of slots frame tile recs proj a
    unfolding plan_of found_in
    finds = rw (c, e, f)

    pub finds-none : (r.answer ≡ 0 → ⊥) → plan_for compound (refused r.answer) ≡ plan_of slots frame tile recs proj a
    finds-none n = ap (plan_for compound) (sym (is-refused r q refl n)) ∙ finds

-- as many records as are stored to are there, and eight at most
small_by : (slots : ℕ) (compound : Bool) (r : SearchOutcome) (b : Bool) → (b ≡ false → 8 ≤ slots)
    → ((plan_for compound (pick b (refused 4) r)).n ≤ slots) × ((plan_for compound (pick b (refused 4) r)).n ≤ 8)
unfolding plan_for
small_by slots compound r true h = (omega arith, omega arith)
small_by slots compound (refused n) false h = (omega arith, omega arith)
small_by slots compound (got f) false h = (h refl, omega arith)

pub small : (slots : ℕ) (frame tile recs proj : List ℕ) (a : Ask) → ((plan_of slots frame tile recs proj a).n ≤ slots) × ((plan_of slots frame tile recs proj a).n ≤ 8)
unfolding plan_of found_in
small slots frame tile recs proj a =
    small_by slots (is_ref a.refs.second) (find_of (frame_at frame) (tile_at tile) recs proj a) (lacking slots (length frame) (length tile))
    (λ e. (enough slots (length frame) (length tile) e).0)

-- THE ANSWER is the search's own, or 4
answers : (compound : Bool) (r : SearchOutcome) → (plan_for compound r).answer ≡ answer_of r
unfolding plan_for
answers compound (refused n) = refl
answers compound (got f) = refl

pub plan-answers : (slots : ℕ) (frame tile recs proj : List ℕ) (a : Ask) → (plan_of slots frame tile recs proj a).answer ≡ answer_of (found_in slots frame tile recs proj a)
unfolding plan_of
plan-answers slots frame tile recs proj a = answers (is_ref a.refs.second) (found_in slots frame tile recs proj a)

-- an answer says how many records are stored to
abbrev is_refusal : SearchAnswer → Bool
is_refusal (answer.Refused n) = true
is_refusal (answer.Found count context) = false

none-by : (compound : Bool) (r : SearchOutcome) {n : ℕ} → (plan_for compound r).answer ≡ answer.Refused n → (plan_for compound r).n ≡ 0
unfolding plan_for
none-by compound (refused m) e = refl
none-by compound (got f) e = absurd (true≢false (sym (ap is_refusal e)))

all-by : (compound : Bool) (r : SearchOutcome) {count context : ℕ} → (plan_for compound r).answer ≡ answer.Found count context → (plan_for compound r).n ≡ 8
unfolding plan_for
all-by compound (refused m) e = absurd (true≢false (ap is_refusal e))
all-by compound (got f) e = refl

-- WHAT THE RECORDS HOLD AFTERWARDS, for whoever reads the contract
module _ (cs : List Candidate) (frame tile recs proj : List ℕ) (a : Ask) where
  abbrev plan : Plan
  plan = plan_of (length cs) frame tile recs proj a

  abbrev slot : Candidate → ℕ → Candidate
  slot c i = slot_of c plan.found i

  -- a refused search leaves every record as it is lent
  pub leaves : {n : ℕ} → plan.answer ≡ answer.Refused n → stored cs frame tile recs proj a ≡ cs
  unfolding plan_of
  leaves e = ap (map_from slot cs 0) (none-by _ _ e) ∙ map_from-none slot nobody cs 0

  -- one that finds something: each of the first eight, from what it held
  pub stores : {count context : ℕ} → plan.answer ≡ answer.Found count context → (i : ℕ) → i < 8
      → get_or (stored cs frame tile recs proj a) i nobody ≡ slot_of (get_or cs i nobody) plan.found i
  unfolding plan_of
  stores e i h =
      let n : plan.n ≡ 8 = all-by _ _ e in
      let s = small (length cs) frame tile recs proj a in
      get_or-map_from slot nobody cs plan.n i (omega arith) (omega (arith, s.0))

  -- and the rest of what is lent, whatever the answer
  pub spares : (i : ℕ) → 8 ≤ i → get_or (stored cs frame tile recs proj a) i nobody ≡ get_or cs i nobody
  spares i h = get_or-past slot nobody cs 0 plan.n i (omega (arith, (small (length cs) frame tile recs proj a).1))
