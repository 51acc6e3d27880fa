-- `motion::loading::load::check_steps` meets its contract.
use Rattle.ground.specs.Span.{first_of}
use Rattle.motion.specs.loading.Fields.{all_used, cells_of}
use Rattle.motion.specs.loading.Load.{step_read}
use mathlib.Core.Path.{◌≡◌}
use Rattle.motion.proofs.loading.load.check_steps.Given as goal

abbrev pub invariant-loop-k : goal.invariant-loop-k
invariant-loop-k l = first_of (step_read (cells_of (all_used l.fields) l.w.stride.0) l.w) l.k l.k-end ≡ first_of (step_read (cells_of (all_used l.fields) l.w.stride.0) l.w) 0 l.k-end
