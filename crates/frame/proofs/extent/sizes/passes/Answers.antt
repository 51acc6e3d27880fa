-- `frame::extent::sizes::passes` meets its contract.
use Rattle.frame.specs.extent.Sizes.{passes_of}
use borrow.Author.Tests.{le-ltb, lt-ltb}
use Rattle.frame.proofs.extent.sizes.passes.Goals as goal

pub returns-then-frames-gt1 : goal.returns-then-frames-gt1
unfolding passes_of
returns-then-frames-gt1 c = rw (lt-ltb _ _ c.if-frames-gt1.true)

pub returns-else-frames-gt1 : goal.returns-else-frames-gt1
unfolding passes_of
returns-else-frames-gt1 c = rw (le-ltb _ _ c.if-frames-gt1.false)
