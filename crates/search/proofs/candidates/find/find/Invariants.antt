-- The first i records are stored to.
use Rattle.std.proofs.Common.{◌≡◌}
use Rattle.search.specs.candidates.Each.{map_from}
use Rattle.search.specs.candidates.Plan.{slot_of}
use Rattle.search.proofs.candidates.find.find.Given as goal

abbrev pub invariant-loop-i : goal.invariant-loop-i
invariant-loop-i l = l.stack ≡ map_from (λ d j. slot_of d l.p.found j) l.initial.stack 0 l.i
