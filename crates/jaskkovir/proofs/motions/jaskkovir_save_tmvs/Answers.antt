-- `jaskkovir::motions::jaskkovir_save_tmvs` meets its contract.
use borrow.Author.Tests.{lt-ltb, le-ltb}
use Rattle.jaskkovir.specs.Moved.{saved_answer, saved_script}
use Rattle.jaskkovir.proofs.Lent.{unlaid, laid}
use Rattle.jaskkovir.proofs.motions.jaskkovir_save_tmvs.Goals as goal

pub returns-then-frame-lt-FRAME : goal.returns-then-frame-lt-FRAME
unfolding saved_answer saved_script
returns-then-frame-lt-FRAME c = let it = unlaid _ _ _ _ (lt-ltb _ _ c.if-frame-lt-FRAME.true) in record { value = it.0; saved_after = it.1 }

pub returns : goal.returns
unfolding saved_answer saved_script
returns c = rw (← c.area_of.ensures, ← c.frame_at.ensures) (let it = (laid _ _ _ _ (le-ltb _ _ c.if-frame-lt-FRAME.false) c.save_tmvs.ensures.value c.save_tmvs.ensures.field_after) in record { value = it.0; saved_after = it.1 })
