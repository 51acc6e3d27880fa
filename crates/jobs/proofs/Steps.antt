-- A step's ways out, and what one that is counted may do.
-- Assumes nothing.
use mathlib.Core.Path.{◌≡◌, refl, sym, ap, ◌∙◌}
use mathlib.Core.Bool.{Bool, true, false, not}
use mathlib.Core.List.{List, []}
use Prim.Native.Nat.{ℕ, zero, suc, ◌+◌, ◌<◌}
use native.Mathlib.Omega.{arith}
use lib.Dec.{eqb}
use lib.ListN.{length}
use borrow.Author.Tests.{eq-eqb, ne_eqb, eqb-false}
use Rattle.ground.specs.Answer.{accepted}
use Rattle.ground.specs.Pick.{pick}
use Rattle.ground.specs.Script.{Patch, run}
use Rattle.ground.proofs.Answers.{both-accept, or-accepts, or-refuses, refused-not}
use Rattle.ground.proofs.Picks.{pick_true, pick-false}
use Rattle.motion.specs.loading.Fields.{lengths_of}
use Rattle.jobs.specs.declared.job.record.Job.{Job}
use Rattle.jobs.specs.job.Job.{is_load, well_kind, count_of}
use Rattle.jobs.specs.Code.Step.{Able, Room}
use Rattle.jobs.proofs.job.Fronts.{front, count_most}
use Rattle.jobs.specs.work.Work.{work_read, work_script, on_proj, on_saved}
use Rattle.jobs.specs.declared.step.Answer.{Answer}
use Rattle.jobs.specs.declared.step.Answer.TheVariants.{Moved}
use Rattle.jobs.specs.declared.step.Stepped.{Stepped}
use Rattle.jobs.specs.Admit.{Handed, lengths_in, sources_in, front_of}
use Rattle.jobs.specs.Step.{done_number, answer_of, step_number, step_done, stepped, step_proj, step_saved}

-- THE NUMBER'S FOUR WAYS OUT
module _ (h : Handed) (j : Job) where
  pub ill-kind : well_kind j ≡ false → 12 ≡ step_number h j
  unfolding step_number
  ill-kind e = rw e

  module _ (w : well_kind j ≡ true) where
    first : pick (not (well_kind j)) 12 (front_of h j) ≡ front_of h j
    first = pick-false 12 (ap not w)

    pub front-stops : {r : ℕ} → r ≡ front_of h j → (r ≡ 0 → ⊥) → r ≡ step_number h j
    unfolding step_number
    front-stops e n = e ∙ sym (or-refuses _ _ (λ z. n (e ∙ sym first ∙ z)) ∙ first)

    module _ {r : ℕ} (e : r ≡ front_of h j) (z : r ≡ 0) where
      second : step_number h j ≡ pick (eqb j.done (count_of h.frame j)) done_number (work_read h.frame (sources_in h) h.recs j j.done)
      unfolding step_number
      second = or-accepts _ _ (first ∙ sym e ∙ z)

      pub is-done : {n : ℕ} → n ≡ count_of h.frame j → j.done ≡ n → done_number ≡ step_number h j
      is-done q d = sym (second ∙ pick_true _ (eq-eqb _ _ (d ∙ q)))

      pub row-answers : {n a : ℕ} → n ≡ count_of h.frame j → (j.done ≡ n → ⊥) → a ≡ work_read h.frame (sources_in h) h.recs j j.done → a ≡ step_number h j
      row-answers q d g = g ∙ sym (second ∙ pick-false done_number (ne_eqb _ _ (λ x. d (x ∙ sym q))))

-- what its reads may count on: the front's, and that a step is left
pub to_read : (h : Handed) (j : Job) {r n : ℕ} → r ≡ front_of h j → r ≡ 0 → n ≡ count_of h.frame j → (j.done ≡ n → ⊥)
    → Able h.frame j (lengths_of h.fields) (length h.recs) × (j.done < count_of h.frame j)
to_read h j e z q d =
    let p = front h.frame h.lent (lengths_in h) j (sym e ∙ z) in
    (p.able, omega (arith, q, d, p.most))

-- WHAT A COUNTED STEP MAY DO
pub record Due (h : Handed) (j : Job) : Type 0 where
  pub able : Able h.frame j (lengths_of h.fields) (length h.recs)
  pub room : Room h.frame j h.nproj h.nsaved
  pub under : j.done < count_of h.frame j
  pub small : j.done < 64
  pub reads : work_read h.frame (sources_in h) h.recs j j.done ≡ 0

pub due : (h : Handed) (j : Job) {r : ℕ} → r ≡ step_number h j → r ≡ 0 → Due h j
unfolding step_number
due h j e z =
    let p = both-accept (pick (not (well_kind j)) 12 (front_of h j)) _ (sym e ∙ z) in
    let k = refused-not (not (well_kind j)) 11 _ p.0 in
    let d = refused-not (eqb j.done (count_of h.frame j)) 14 _ p.1 in
    let q = front h.frame h.lent (lengths_in h) j k.1 in
    let u : j.done < count_of h.frame j = omega (arith, q.most, eqb-false j.done (count_of h.frame j) d.0) in
    record { able = q.able; room = q.room; under = u; small = omega (arith, u, count_most h.frame j q.frame q.area); reads = d.1 }

-- what it lays and counts, by its number
none-laid : (n : ℕ) (ps : List Patch) → (n ≡ 0 → ⊥) → accepted n ps ≡ []
none-laid zero ps h = absurd (h refl)
none-laid (suc n) ps h = refl

either : (b : Bool) → ◌≡◌ {A = List Patch} (pick b [] []) []
either true = refl
either false = refl

module _ (h : Handed) (j : Job) (n : step_number h j ≡ 0 → ⊥) where
  pub proj-none : step_proj h j ≡ []
  unfolding step_proj
  proj-none = ap (on_proj j) (none-laid (step_number h j) _ n) ∙ either (is_load j)

  pub saved-none : step_saved h j ≡ []
  unfolding step_saved
  saved-none = ap (on_saved j) (none-laid (step_number h j) _ n) ∙ either (is_load j)

  done_none : step_done h j ≡ j.done
  unfolding step_done
  done_none = pick-false _ (ne_eqb (step_number h j) 0 n)

told : {a b : Answer} {m n : ℕ} → a ≡ b → m ≡ n → ◌≡◌ {A = Stepped} (record { answer = a; done = m }) (record { answer = b; done = n })
told e q = λ t. record { answer = e t; done = q t }

-- ITS TWO WAYS OUT: nothing is laid and counted, or its row of work is
module _ (h : Handed) (j : Job) (proj saved : List ℕ) {r : ℕ} (e : r ≡ step_number h j) where
  pub stays : (r ≡ 0 → ⊥) → {a : Answer} → a ≡ answer_of r
      → (◌≡◌ {A = Stepped} (record { answer = a; done = j.done }) (stepped h j))
      × ((proj ≡ run (step_proj h j) proj) × (saved ≡ run (step_saved h j) saved))
  unfolding run
  stays n q =
      let m : step_number h j ≡ 0 → ⊥ = λ z. n (e ∙ z) in (
        told (q ∙ ap answer_of e) (sym (done_none h j m)),
        (ap (λ (p : List Patch). run p proj) (sym (proj-none h j m)), ap (λ (p : List Patch). run p saved) (sym (saved-none h j m))),
      )

  pub goes : r ≡ 0 → {t u : List ℕ}
      → t ≡ run (on_proj j (work_script h.frame (sources_in h) h.recs j j.done)) proj
      → u ≡ run (on_saved j (work_script h.frame (sources_in h) h.recs j j.done)) saved
      → (◌≡◌ {A = Stepped} (record { answer = Moved; done = j.done + 1 }) (stepped h j))
      × ((t ≡ run (step_proj h j) proj) × (u ≡ run (step_saved h j) saved))
  unfolding answer_of step_done step_proj step_saved
  goes z p q =
      let k = sym z ∙ e in (
        told (ap answer_of k) (ap (λ (m : ℕ). pick (eqb m 0) (j.done + 1) j.done) k),
        (
          p ∙ ap (λ (m : ℕ). run (on_proj j (accepted m (work_script h.frame (sources_in h) h.recs j j.done))) proj) k,
          q ∙ ap (λ (m : ℕ). run (on_saved j (accepted m (work_script h.frame (sources_in h) h.recs j j.done))) saved) k,
        ),
      )
