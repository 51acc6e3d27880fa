-- `search::candidates::plan::slot` meets its contract: each return rewrites with the tests that led there.
use borrow.Author.Tests.{lt-ltb, le-ltb}
use Rattle.search.specs.candidates.Plan.{slot_of}
use Rattle.search.proofs.candidates.plan.slot.Goals as goal

pub returns-then-i-f : goal.returns-then-i-f
unfolding slot_of
returns-then-i-f c = rw (lt-ltb _ _ c.if-i-f.true, c.second_of-second.ensures)

pub returns-then-f : goal.returns-then-f
unfolding slot_of
returns-then-f c = rw (le-ltb _ _ c.if-i-f.false, c.if-f.true)

pub returns-then-i-lt2 : goal.returns-then-i-lt2
unfolding slot_of
returns-then-i-lt2 c = rw (le-ltb _ _ c.if-i-f.false, c.if-f.false, lt-ltb _ _ c.if-i-lt2.true)

pub returns : goal.returns
unfolding slot_of
returns c = rw (le-ltb _ _ c.if-i-f.false, c.if-f.false, le-ltb _ _ c.if-i-lt2.false)
