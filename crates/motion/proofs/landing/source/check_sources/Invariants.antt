-- `motion::landing::source::check_sources` meets its contract.
use Rattle.ground.specs.Span.{first_of}
use Rattle.motion.specs.landing.Row.{cell_read, source_at}
use mathlib.Core.Path.{◌≡◌}
use Rattle.motion.proofs.landing.source.check_sources.Given as goal

abbrev pub invariant-loop-x : goal.invariant-loop-x
invariant-loop-x l = first_of (cell_read (source_at l.src l.first)) l.x l.x-end ≡ first_of (cell_read (source_at l.src l.first)) l.initial.x l.x-end
