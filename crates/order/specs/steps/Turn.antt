-- What a step leaves of its job's record, and a step that names a job of a batch (document 01, "Jobs and windows").
use Rattle.std.specs.Prelude.{ℕ, Bool, ◌&&◌, List, ltb, leb, set}
use Rattle.ground.specs.Answer.{accepted}
use Rattle.ground.specs.Pick.{pick}
use Rattle.ground.specs.Script.{Patch}
use Rattle.jobs.specs.declared.job.record.Job.{Job}
use Rattle.jobs.specs.declared.job.record.Batch.{Batch}
use Rattle.jobs.specs.job.Job.{job_at}
use Rattle.jobs.specs.Admit.{Handed}
use Rattle.jobs.specs.Step.{answer_of, step_number, step_done, step_proj, step_saved}
use Rattle.order.specs.declared.steps.turn.Turned.{Turned}

-- the record with another number of steps done
abbrev pub with_done : Job → ℕ → Job
with_done j k = record { kind = j.kind; area = j.area; sby = j.sby; pass = j.pass; done = k }

-- and a batch with job k's
abbrev pub counted : Batch → (k done : ℕ) → Batch
counted b k done = record { n = b.n; jobs = set b.jobs k (with_done (job_at b k) done) }

-- A STEP OF A BATCH, naming job k of it; a number that names none is refused
unfoldable pub names : Batch → ℕ → Bool
names b k = leb b.n 8 && ltb k b.n

unfoldable pub turn_number : Handed → Batch → ℕ → ℕ
turn_number h b k = pick (names b k) (step_number h (job_at b k)) 12

unfoldable pub turn_proj : Handed → Batch → ℕ → List Patch
turn_proj h b k = accepted (turn_number h b k) (step_proj h (job_at b k))

unfoldable pub turn_saved : Handed → Batch → ℕ → List Patch
turn_saved h b k = accepted (turn_number h b k) (step_saved h (job_at b k))

unfoldable pub turn_batch : Handed → Batch → ℕ → Batch
turn_batch h b k = pick (names b k) (counted b k (step_done h (job_at b k))) b

-- both, as a step hands them back
abbrev pub turned : Handed → Batch → ℕ → Turned
turned h b k = record { answer = answer_of (turn_number h b k); batch = turn_batch h b k }
