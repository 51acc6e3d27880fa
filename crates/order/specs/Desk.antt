-- The machine that demand 3 speaks of. A batch and the two buffers that its jobs write lie on a desk; a step names a job and leaves the desk as the contract of
-- `order::steps::turn::step_of` says.
use Rattle.std.specs.Prelude.{ℕ, zero, suc, List, [], ◌∷◌, length}
use Rattle.ground.specs.Script.{run}
use Rattle.frame.specs.declared.record.Frame.{Frame}
use Rattle.motion.specs.declared.loading.fields.Lent.{Lent}
use Rattle.motion.specs.loading.Fields.{Sources, cells_in}
use Rattle.jobs.specs.declared.job.record.Batch.{Batch}
use Rattle.jobs.specs.declared.inputs.Inputs.{Inputs}
use Rattle.jobs.specs.Inputs.{used_fields}
use Rattle.jobs.specs.Admit.{Handed, handed}
use Rattle.order.specs.steps.Turn.{turn_number, turn_batch, turn_proj, turn_saved}

-- what admission and every step are handed alike: the frame's record, how its fields are lent, those that a load uses, and the records; none of them is written
pub record Given : Type 0 where
  pub frame : Frame
  pub lent : Lent
  pub fields : List (List ℕ)
  pub recs : List ℕ

-- a load's sources
abbrev pub sources_by : Given → Sources
sources_by g = cells_in g.fields g.frame

abbrev pub given : Frame → Lent → List (List ℕ) → List ℕ → Given
given f l fields recs = record { frame = f; lent = l; fields = fields; recs = recs }

-- as the code holds them
abbrev pub given_by : Inputs → Given
given_by i = given i.frame i.lent (used_fields i) i.recs.now

pub record Desk : Type 0 where
  pub batch : Batch
  pub proj : List ℕ
  pub saved : List ℕ

abbrev pub desk : Batch → (proj saved : List ℕ) → Desk
desk b proj saved = record { batch = b; proj = proj; saved = saved }

-- A desk's buffers by number: 0 is the projection, 1 the saved field
abbrev pub Buffers : Type 0
Buffers = ℕ → List ℕ

abbrev pub buffers : Desk → Buffers
buffers d zero = d.proj
buffers d (suc zero) = d.saved
buffers d (suc (suc b)) = []

-- the batch and the buffers are handed over as they then stand
abbrev pub handed_by : Given → Desk → Handed
handed_by g d = handed g.frame g.lent g.fields g.recs (length d.proj) (length d.saved)

-- what the step that names job k answers, and what it leaves
unfoldable pub answer_to : Given → ℕ → Desk → ℕ
answer_to g k d = turn_number (handed_by g d) d.batch k

unfoldable pub turn : Given → ℕ → Desk → Desk
turn g k d = record {
  batch = turn_batch (handed_by g d) d.batch k;
  proj = run (turn_proj (handed_by g d) d.batch k) d.proj;
  saved = run (turn_saved (handed_by g d) d.batch k) d.saved;
}

-- a list of steps, the head of the list first
abbrev pub plays : Given → List ℕ → Desk → Desk
plays g [] d = d
plays g (k ∷ ks) d = plays g ks (turn g k d)
