-- `capture::entries::Entries::of` meets its contract.
use borrow.Author.Tests.{le-leb, lt-leb}
use Rattle.capture.specs.File.{has_entries}
use Rattle.capture.proofs.entries.Entries.of.Goals as goal

pub returns-then-n-lt1 : goal.returns-then-n-lt1
unfolding has_entries
returns-then-n-lt1 c = simp (← c.entries_of-n.ensures.0, lt-leb 1 _ c.if-n-lt1.true)

pub returns-then-n-gt32 : goal.returns-then-n-gt32
unfolding has_entries
returns-then-n-gt32 c = simp (← c.entries_of-n.ensures.0, le-leb 1 _ c.if-n-lt1.false, lt-leb _ 32 c.if-n-gt32.true)

pub returns-then-file-n : goal.returns-then-file-n
unfolding has_entries
returns-then-file-n c = simp (← c.entries_of-n.ensures.0, le-leb 1 _ c.if-n-lt1.false, le-leb _ 32 c.if-n-gt32.false, lt-leb _ _ c.if-file-n.true)
