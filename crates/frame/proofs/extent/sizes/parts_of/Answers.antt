-- `frame::extent::sizes::parts_of` meets its contract.
use Rattle.frame.specs.extent.Sizes.{parts_of}
use borrow.Author.Tests.{le-ltb, lt-ltb}
use Rattle.frame.proofs.extent.sizes.parts_of.Goals as goal

pub returns-then-tiles-gt1 : goal.returns-then-tiles-gt1
unfolding parts_of
returns-then-tiles-gt1 c = rw (lt-ltb _ _ c.if-tiles-gt1.true)

pub returns-else-tiles-gt1 : goal.returns-else-tiles-gt1
unfolding parts_of
returns-else-tiles-gt1 c = rw (le-ltb _ _ c.if-tiles-gt1.false)
