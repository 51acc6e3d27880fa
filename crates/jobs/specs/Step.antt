-- A step (document 01, the order of refusals; "Jobs and windows"): 12, 1, 3, 4 and 5 of its job, then "done", then its own row's reads; then it writes.
use Rattle.std.specs.Prelude.{ℕ, ◌+◌, not, List, eqb}
use Rattle.ground.specs.Answer.{or_else, accepted}
use Rattle.ground.specs.Pick.{pick}
use Rattle.ground.specs.Script.{Patch}
use Rattle.jobs.specs.declared.job.record.Job.{Job}
use Rattle.jobs.specs.job.Job.{well_kind, count_of}
use Rattle.jobs.specs.work.Work.{work_read, work_script, on_proj, on_saved}
use Rattle.jobs.specs.declared.step.Answer.{Answer}
use Rattle.jobs.specs.declared.step.Answer.TheVariants.{Moved, Done, Refused}
use Rattle.jobs.specs.declared.step.Stepped.{Stepped}
use Rattle.jobs.specs.Admit.{Handed, sources_in, front_of}

-- "done" is neither 0 nor a refusal; 14 is left for "waiting"
abbrev pub done_number : ℕ
done_number = 15

-- the paper's number of an answer, and back
abbrev pub number_of : Answer → ℕ
number_of Moved = 0
number_of Done = done_number
number_of (Refused n) = n

unfoldable pub answer_of : ℕ → Answer
answer_of n = pick (eqb n 0) Moved (pick (eqb n done_number) Done (Refused n))

-- one job's step
unfoldable pub step_number : Handed → Job → ℕ
step_number h j =
    or_else (pick (not (well_kind j)) 12 (front_of h j))
    (pick (eqb j.done (count_of h.frame j)) done_number (work_read h.frame (sources_in h) h.recs j j.done))

-- its steps done go up by one exactly when the step is counted
unfoldable pub step_done : Handed → Job → ℕ
step_done h j = pick (eqb (step_number h j) 0) (j.done + 1) j.done

-- both, as a step hands them back
abbrev pub stepped : Handed → Job → Stepped
stepped h j = record { answer = answer_of (step_number h j); done = step_done h j }

unfoldable pub step_proj : Handed → Job → List Patch
step_proj h j = on_proj j (accepted (step_number h j) (work_script h.frame (sources_in h) h.recs j j.done))

unfoldable pub step_saved : Handed → Job → List Patch
step_saved h j = on_saved j (accepted (step_number h j) (work_script h.frame (sources_in h) h.recs j j.done))
