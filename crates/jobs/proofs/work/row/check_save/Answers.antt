-- `jobs::work::row::check_save` meets its contract.
use Rattle.frame.proofs.Records.{frame-sizes}
use Rattle.motion.specs.saving.Save.{row_read}
use Rattle.motion.proofs.saving.Saves.{walk-ready}
use Rattle.jobs.proofs.work.row.check_save.Goals as goal

pub records-requires : goal.records-requires
records-requires c = let s = c in frame-sizes s.args.inputs.now.frame s.requires.frame

pub row_entry-requires : goal.row_entry-requires
row_entry-requires c = let s = c in (frame-sizes s.args.inputs.now.frame s.requires.frame, s.requires.area)

pub check_row-requires : goal.check_row-requires
check_row-requires c = let s = c in walk-ready s.args.inputs.now.frame s.args.a c.strip_in.ensures c.records.ensures s.requires

pub returns : goal.returns
unfolding row_read
returns c = rw (c.check_row.ensures, c.row_entry.ensures, c.strip_in.ensures, c.records.ensures)
