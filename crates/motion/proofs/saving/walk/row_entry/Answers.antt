-- `motion::saving::walk::row_entry` meets its contract.
use Rattle.motion.proofs.saving.Areas.{asked}
use Rattle.motion.proofs.saving.walk.row_entry.Goals as goal

pub entry_for-requires : goal.entry_for-requires
entry_for-requires c = let s = c in (s.requires.0, (asked s.args.s s.args.a s.requires.1).tile, c.entry_of.ensures.1)
