-- A CAPTURE THAT IS PLAYED FINISHES ITS JOBS: the two buffers hold what all jobs leave that are run whole in list order, and each job has done all its steps.
-- Assumes nothing.
use mathlib.Core.Path.{◌≡◌, refl, sym, ap, ◌∙◌, subst}
use mathlib.Core.Bool.{Bool, true, false}
use mathlib.Core.List.{List, [], ◌∷◌, ◌++◌}
use Prim.Native.Nat.{ℕ, zero, suc, ◌+◌, ◌≤◌, ◌<◌}
use native.Mathlib.Decide.{ℕ_discrete}
use native.Mathlib.Nat.{zero-add, suc-add}
use native.Mathlib.Omega.{arith}
use lib.Dec.{eqb, ltb}
use lib.ListN.{length, replicate}
use borrow.Author.Tests.{eq-eqb}
use Rattle.ground.specs.Pick.{pick}
use Rattle.ground.specs.Window.{named}
use Rattle.ground.proofs.Answers.{both-accept}
use Rattle.ground.proofs.Picks.{pick_true}
use Rattle.ground.proofs.Scripts.{run_length}
use Rattle.ground.proofs.Tabs.{tab-at}
use Rattle.ground.proofs.Tabs.{tab-length}
use Rattle.cells.specs.declared.cell.Cell.{Cell}
use Rattle.capture.specs.File.{body_of}
use Rattle.jobs.specs.declared.job.record.Job.{Job}
use Rattle.jobs.specs.declared.job.record.Batch.{Batch}
use Rattle.jobs.specs.job.Job.{no_job, count_of, job_at}
use Rattle.jobs.specs.job.Bytes.{capture_job, job_held, job_in, jobs_in, place_in, batch_of}
use Rattle.jobs.proofs.job.Fronts.{count_most}
use Rattle.jobs.specs.Admit.{batch_answer}
use Rattle.order.specs.Desk.{Given, Desk, handed_by, plays}
use Rattle.order.specs.Demand.{Admitted, Finishes, Whole}
use Rattle.order.proofs.Admission.{accepted}
use Rattle.order.proofs.Ordered.{any_order, all_finished}
use Rattle.capture.specs.player.Opened.{batch_in, given_in, open_answer}
use Rattle.capture.specs.player.Played.{everywhere, blank_proj, blank_saved, in_order, batch_played, batch_desk, blank_desk, played_answer, played_desk}

-- the steps in list order name each job 64 times
named-append : (j : ℕ) (ks ls : List ℕ) → named j (ks ++ ls) ≡ named j ks + named j ls
named-append j [] ls = sym (zero-add (named j ls))
named-append j (k ∷ ks) ls = by (eqb j k) (named-append j ks ls)
  where
    by : (b : Bool) → named j (ks ++ ls) ≡ named j ks + named j ls
        → pick b (suc (named j (ks ++ ls))) (named j (ks ++ ls)) ≡ pick b (suc (named j ks)) (named j ks) + named j ls
    by true e = ap suc e ∙ sym (suc-add (named j ks) (named j ls))
    by false e = e

named-all : (j n : ℕ) → named j (replicate n j) ≡ n
named-all j zero = refl
named-all j (suc n) = pick_true _ (eq-eqb j j refl) ∙ ap suc (named-all j n)

by_last : (a b c : ℕ) → c ≡ a + b → b ≡ 64 → 64 ≤ c
by_last a b c e h = omega arith

by_first : (a b c : ℕ) → c ≡ a + b → 64 ≤ a → 64 ≤ c
by_first a b c e h = omega arith

named-often : (n j : ℕ) → j < n → 64 ≤ named j (in_order n)
named-often zero j h = absurd (omega arith)
named-often (suc n) j h = by (ℕ_discrete j n) (named-often n j)
  where
    both : named j (in_order n ++ replicate 64 n) ≡ named j (in_order n) + named j (replicate 64 n)
    both = named-append j (in_order n) (replicate 64 n)

    by : Dec (j ≡ n) → (j < n → 64 ≤ named j (in_order n)) → 64 ≤ named j (in_order n ++ replicate 64 n)
    by (yes e) before = by_last (named j (in_order n)) _ _ both (ap (λ (m : ℕ). named j (replicate 64 m)) (sym e) ∙ named-all j 64)
    by (no d) before = by_first _ (named j (replicate 64 n)) _ both (before (omega arith))

-- none of a file's jobs is stepped yet
unstepped-place : (l : List ℕ) (i : ℕ) → (place_in capture_job l i).done ≡ 0
unfolding place_in job_held
unstepped-place l i = by (ltb i (jobs_in capture_job (length l)))
  where
    by : (b : Bool) → (pick b (job_in capture_job l i) no_job).done ≡ 0
    by true = refl
    by false = refl

unstepped : (l : List ℕ) (i : ℕ) → i < 8 → (job_at (batch_of capture_job l) i).done ≡ 0
unfolding batch_of
unstepped l i h = ap (λ (j : Job). j.done) (tab-at (place_in capture_job l) no_job 0 8 i h) ∙ unstepped-place l (0 + i)

eight-places : (l : List ℕ) → length (batch_of capture_job l).jobs ≡ 8
unfolding batch_of
eight-places l = tab-length (place_in capture_job l) 0 8

blank-long : (c : Cell) (l : List ℕ) → length (everywhere c l) ≡ length l
unfolding everywhere
blank-long c l = run_length _ l

module _ (file proj saved : List ℕ) (z : played_answer file proj saved ≡ 0) where
  abbrev g : Given
  g = given_in file

  abbrev b : Batch
  b = batch_in file

  abbrev d : Desk
  d = blank_desk b proj saved

  answers : (open_answer file ≡ 0) × (batch_played g b proj saved ≡ 0)
  unfolding played_answer
  answers = both-accept (open_answer file) (batch_played g b proj saved) z

  taken : batch_answer (handed_by g d) b ≡ 0
  taken = rw (blank-long blank_proj proj, blank-long blank_saved saved) answers.1

  pub admitted : Admitted g d
  admitted =
      record {
        accepted = taken;
        unstepped = λ j h. unstepped (body_of file 2) j (omega (arith, (accepted (handed_by g d) b taken).few));
        places = eight-places (body_of file 2);
      }

  finishes : Finishes g d (in_order b.n)
  finishes j h =
      let f = (accepted (handed_by g d) b taken).each j h in
      omega (arith, count_most g.frame (job_at b j) f.frame f.area, named-often b.n j h)

  desk-is : played_desk file proj saved ≡ plays g (in_order b.n) d
  unfolding played_desk batch_desk
  desk-is = pick_true _ (eq-eqb (open_answer file) 0 answers.0) ∙ pick_true _ (eq-eqb (batch_played g b proj saved) 0 answers.1)

  -- the buffers are those of all jobs run whole
  pub played-whole : Whole g d (played_desk file proj saved)
  played-whole = subst (Whole g d) (sym desk-is) (all_finished g d admitted (in_order b.n) finishes)

  -- each job has all its steps done
  pub played-steps : (j : ℕ) → j < b.n → (job_at (played_desk file proj saved).batch j).done ≡ count_of g.frame (job_at b j)
  played-steps j h =
      ap (λ (e : Desk). (job_at e.batch j).done) desk-is
      ∙ ap (λ (k : Job). k.done) ((any_order g d admitted (in_order b.n)).record_of j h)
      ∙ omega (arith, finishes j h)
