-- What playing a capture on lent bytes answers, and what it leaves. A part for the steps that is too short is refused with 4, before anything else.
use Rattle.std.specs.Prelude.{ℕ, Bool, List, ltb}
use Rattle.ground.specs.Answer.{accepted}
use Rattle.ground.specs.Little.{fours}
use Rattle.ground.specs.Pick.{pick}
use Rattle.ground.specs.Script.{Patch}
use Rattle.ground.specs.Tab.{tab}
use Rattle.jobs.specs.declared.job.record.Batch.{Batch}
use Rattle.jobs.specs.job.Job.{job_at}
use Rattle.order.specs.Desk.{Desk, desk}
use Rattle.capture.specs.player.Opened.{batch_in}
use Rattle.capture.specs.player.Played.{played_answer, played_desk}
use Rattle.jaskkovir.specs.Framed.{whole}

-- eight numbers of four bytes
abbrev pub short_steps : ℕ → Bool
short_steps n = ltb n 32

-- n is the length of the part lent for the steps
unfoldable pub shown_answer : (file proj saved : List ℕ) → ℕ → ℕ
shown_answer file proj saved n = pick (short_steps n) 4 (played_answer file proj saved)

unfoldable pub shown_desk : (file proj saved : List ℕ) → ℕ → Desk
shown_desk file proj saved n = pick (short_steps n) (desk (batch_in file) proj saved) (played_desk file proj saved)

-- each job's steps, 0 behind the last
unfoldable pub steps_of : Batch → List ℕ
steps_of b = fours (tab (λ i. (job_at b i).done) 0 8)

unfoldable pub shown_steps : (file proj saved : List ℕ) → ℕ → List Patch
shown_steps file proj saved n = accepted (shown_answer file proj saved n) (whole (steps_of (played_desk file proj saved).batch))
