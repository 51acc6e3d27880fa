-- `jobs::admit::check_reads` meets its contract.
use mathlib.Core.Path.{◌≡◌}
use Rattle.ground.specs.Span.{first_of}
use Rattle.jobs.specs.Inputs.{used_sources}
use Rattle.jobs.specs.work.Work.{admit_read}
use Rattle.jobs.proofs.admit.check_reads.Given as goal

abbrev pub invariant-loop-k : goal.invariant-loop-k
invariant-loop-k l = first_of (admit_read l.inputs.frame (used_sources l.inputs) l.inputs.recs.now l.job) l.k l.n ≡ first_of (admit_read l.inputs.frame (used_sources l.inputs) l.inputs.recs.now l.job) 0 l.n
