-- `motion::loading::load::load_steps` meets its contract.
use Rattle.ground.specs.Span.{span}
use Rattle.ground.specs.Script.{run}
use Rattle.motion.specs.loading.Fields.{all_used, cells_of}
use Rattle.motion.specs.loading.Load.{step_script}
use mathlib.Core.Path.{◌≡◌}
use Rattle.motion.proofs.loading.load.load_steps.Given as goal

abbrev pub invariant-loop-k : goal.invariant-loop-k
invariant-loop-k l = l.proj ≡ run (span (step_script (cells_of (all_used l.fields) l.w.stride.0) l.w l.us) 0 l.k) l.initial.proj
