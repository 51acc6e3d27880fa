-- `jaskkovir::batches::inputs_in` meets its contract.
use Rattle.jaskkovir.proofs.batches.inputs_in.Goals as goal

pub returns : goal.returns
returns c nproj nsaved = rw (← c.first_bytes.ensures, ← c.frame_at-frame.ensures, ← c.uses_of-used.ensures, ← c.used.ensures)
