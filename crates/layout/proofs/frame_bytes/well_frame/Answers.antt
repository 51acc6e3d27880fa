-- `layout::frame_bytes::well_frame` meets its contract.
use borrow.Author.Tests.{le-leb, lt-leb}
use Rattle.frame.specs.Record.{well_frame}
use Rattle.layout.specs.FrameBytes.{frame_at}
use Rattle.layout.proofs.frame_bytes.well_frame.Goals as goal

pub returns-then-not-well_formed : goal.returns-then-not-well_formed
unfolding frame_at well_frame
returns-then-not-well_formed c = rw (← c.sizes_at-sizes.ensures, ← c.well_formed-2.ensures, c.if-not-well_formed.true)

pub returns-then-s-gt1 : goal.returns-then-s-gt1
unfolding frame_at well_frame
returns-then-s-gt1 c = rw (← c.sizes_at-sizes.ensures, ← c.well_formed-2.ensures, c.if-not-well_formed.false, lt-leb _ _ c.if-s-gt1.true)

pub returns-then-s-gt1-2 : goal.returns-then-s-gt1-2
unfolding frame_at well_frame
returns-then-s-gt1-2 c = rw (← c.sizes_at-sizes.ensures, ← c.well_formed-2.ensures, c.if-not-well_formed.false, le-leb _ _ c.if-s-gt1.false, lt-leb _ _ c.if-s-gt1-2.true)

pub returns-then-s-gt3 : goal.returns-then-s-gt3
unfolding frame_at well_frame
returns-then-s-gt3 c = rw (← c.sizes_at-sizes.ensures, ← c.well_formed-2.ensures, c.if-not-well_formed.false, le-leb _ _ c.if-s-gt1.false, le-leb _ _ c.if-s-gt1-2.false, lt-leb _ _ c.if-s-gt3.true)

pub returns-then-well_hints : goal.returns-then-well_hints
unfolding frame_at well_frame
returns-then-well_hints c = rw (← c.sizes_at-sizes.ensures, ← c.well_formed-2.ensures, c.if-not-well_formed.false, le-leb _ _ c.if-s-gt1.false, le-leb _ _ c.if-s-gt1-2.false, le-leb _ _ c.if-s-gt3.false, ← c.well_hints.ensures, c.if-well_hints.true, ← c.well_mfmvs.ensures)

pub returns-else-well_hints : goal.returns-else-well_hints
unfolding frame_at well_frame
returns-else-well_hints c = rw (← c.sizes_at-sizes.ensures, ← c.well_formed-2.ensures, c.if-not-well_formed.false, le-leb _ _ c.if-s-gt1.false, le-leb _ _ c.if-s-gt1-2.false, le-leb _ _ c.if-s-gt3.false, ← c.well_hints.ensures, c.if-well_hints.false)
