-- `jobs::work::row::do_save` meets its contract.
use Rattle.frame.proofs.Records.{frame-sizes}
use Rattle.motion.specs.saving.Save.{row_read, row_patch}
use Rattle.jobs.proofs.work.Works.{save-room}
use Rattle.jobs.proofs.work.row.do_save.Goals as goal

pub records-requires : goal.records-requires
records-requires c = let s = c in frame-sizes s.args.inputs.now.frame s.requires.ready.0.frame

pub row_entry-requires : goal.row_entry-requires
row_entry-requires c = let s = c in (frame-sizes s.args.inputs.now.frame s.requires.ready.0.frame, s.requires.ready.0.area)

pub save_row-requires : goal.save_row-requires
unfolding row_read
save_row-requires c = let p = c.requires in rw (c.row_entry.ensures, c.strip_in.ensures, c.records.ensures) (record { row_room = save-room _ _ _ _ _ p.ready.0 p.ready.1 p.ready.2; at_value = p.y_value })

pub returns : goal.returns
unfolding row_patch
returns c = rw (c.save_row.ensures, c.row_entry.ensures, c.strip_in.ensures)
