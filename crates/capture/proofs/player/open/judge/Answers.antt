-- `capture::player::open::judge` meets its contract: each return rewrites with the tests that led there.
use borrow.Author.Tests.{lt-ltb, le-ltb}
use mathlib.Core.Path.{sym, ◌∙◌}
use Rattle.capture.specs.player.Opened.{judged}
use Rattle.capture.proofs.player.open.judge.Goals as goal

pub returns-then-bytes-gt-MOST_BYTES : goal.returns-then-bytes-gt-MOST_BYTES
unfolding judged
returns-then-bytes-gt-MOST_BYTES c = rw (lt-ltb _ _ c.if-bytes-gt-MOST_BYTES.true)

pub returns-then-not-well_formed : goal.returns-then-not-well_formed
unfolding judged
returns-then-not-well_formed c = rw (le-ltb _ _ c.if-bytes-gt-MOST_BYTES.false, sym c.well_formed-2.ensures ∙ c.if-not-well_formed.true)

pub returns-then-is_beyond : goal.returns-then-is_beyond
unfolding judged
returns-then-is_beyond c =
    rw (le-ltb _ _ c.if-bytes-gt-MOST_BYTES.false, sym c.well_formed-2.ensures ∙ c.if-not-well_formed.false, sym c.is_beyond.ensures ∙ c.if-is_beyond.true)

pub returns : goal.returns
unfolding judged
returns c =
    rw (le-ltb _ _ c.if-bytes-gt-MOST_BYTES.false, sym c.well_formed-2.ensures ∙ c.if-not-well_formed.false, sym c.is_beyond.ensures ∙ c.if-is_beyond.false)
    c.check_description.ensures
