-- `capture::player::open::is_beyond` meets its contract.
use Rattle.std.proofs.Common.{rules}
use Rattle.ground.proofs.Tests.{tests}
use Rattle.capture.specs.player.Opened.{beyond}
use Rattle.capture.proofs.player.open.is_beyond.Goals as goal
use Rattle.capture.proofs.player.open.is_beyond.Goals.{then-d-gt-MOST_SIDE, else-d-gt-MOST_SIDE}

pub returns-then-d-gt-MOST_SIDE-2 : goal.returns-then-d-gt-MOST_SIDE-2
unfolding beyond
returns-then-d-gt-MOST_SIDE-2 c = elim c.if-d-gt-MOST_SIDE.branch [ then-d-gt-MOST_SIDE w ↦ search (rules, tests) | else-d-gt-MOST_SIDE w ↦ search (rules, tests) ]

pub returns-else-d-gt-MOST_SIDE-2 : goal.returns-else-d-gt-MOST_SIDE-2
unfolding beyond
returns-else-d-gt-MOST_SIDE-2 c = elim c.if-d-gt-MOST_SIDE.branch [ then-d-gt-MOST_SIDE w ↦ search (rules, tests) | else-d-gt-MOST_SIDE w ↦ search (rules, tests) ]
