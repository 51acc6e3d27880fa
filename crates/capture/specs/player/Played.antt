-- What playing a capture answers and leaves (document 01, "Capture file"): projection cells start INVALID with reference 0, saved cells zero, and the
-- jobs are run in list order.
use Rattle.std.specs.Prelude.{ℕ, zero, suc, ◌*◌, ◌/◌, List, [], ◌∷◌, ◌++◌, eqb, pos, length, replicate}
use Rattle.ground.specs.Answer.{or_else}
use Rattle.ground.specs.Pick.{pick}
use Rattle.ground.specs.Script.{Patch, run}
use Rattle.ground.specs.Span.{span}
use Rattle.vector.specs.Vector.{invalid}
use Rattle.cells.specs.declared.cell.Cell.{Cell}
use Rattle.cells.specs.Cell.{cell_bytes}
use Rattle.jobs.specs.declared.job.record.Batch.{Batch}
use Rattle.jobs.specs.Admit.{batch_answer}
use Rattle.order.specs.Desk.{Given, Desk, desk, handed_by, plays}
use Rattle.capture.specs.player.Opened.{batch_in, given_in, open_answer}

-- a cell over every place of a buffer; bytes behind the last whole cell stay
abbrev pub laid_at : Cell → ℕ → List Patch
laid_at c i = record { at = 5 * i; bytes = cell_bytes c } ∷ []

unfoldable pub everywhere : Cell → List ℕ → List ℕ
everywhere c l = run (span (laid_at c) 0 (length l / 5)) l

abbrev pub blank_proj : Cell
blank_proj = record { mv = invalid; reference = record { 0 = pos 0 } }

abbrev pub blank_saved : Cell
blank_saved = record { mv = record { y = pos 0; x = pos 0 }; reference = record { 0 = pos 0 } }

-- The steps of the first n jobs, in list order. No job has more than 64, and a step of a finished one changes nothing (proofs/Finished).
abbrev pub in_order : ℕ → List ℕ
in_order zero = []
in_order (suc n) = in_order n ++ replicate 64 n

-- A BATCH PLAYED over two buffers: its admission's answer, and the desk afterwards, which is as lent where it is refused
abbrev pub batch_played : Given → (b : Batch) (proj saved : List ℕ) → ℕ
batch_played g b proj saved = batch_answer (handed_by g (desk b proj saved)) b

abbrev pub blank_desk : (b : Batch) (proj saved : List ℕ) → Desk
blank_desk b proj saved = desk b (everywhere blank_proj proj) (everywhere blank_saved saved)

unfoldable pub batch_desk : Given → (b : Batch) (proj saved : List ℕ) → Desk
batch_desk g b proj saved =
    pick (eqb (batch_played g b proj saved) 0) (plays g (in_order b.n) (blank_desk b proj saved)) (desk b proj saved)

-- A CAPTURE PLAYED: the file's own refusal, or that of its batch
unfoldable pub played_answer : (file proj saved : List ℕ) → ℕ
played_answer file proj saved = or_else (open_answer file) (batch_played (given_in file) (batch_in file) proj saved)

unfoldable pub played_desk : (file proj saved : List ℕ) → Desk
played_desk file proj saved =
    pick (eqb (open_answer file) 0) (batch_desk (given_in file) (batch_in file) proj saved) (desk (batch_in file) proj saved)

-- the frame's stride, where the answer is 0
abbrev pub stride_of : ℕ → Given → ℕ
stride_of n g = pick (eqb n 0) g.frame.sizes.stride.0 0
