-- `jaskkovir::batches::write_down` meets its contract.
use mathlib.Core.Path.{◌∙◌}
use Rattle.ground.specs.Script.{run}
use Rattle.ground.proofs.Answers.{run-accepted, run-refused}
use Rattle.jaskkovir.specs.Batched.{done_patch}
use Rattle.jaskkovir.proofs.batches.write_down.Goals as goal

pub returns-then-number-eq0 : goal.returns-then-number-eq0
unfolding run done_patch
returns-then-number-eq0 c = c.put_size.ensures ∙ run-accepted _ (done_patch c.args.k c.args.done) c.args.jobs.now c.if-number-eq0.true

pub returns-else-number-eq0 : goal.returns-else-number-eq0
returns-else-number-eq0 c = run-refused _ _ _ c.if-number-eq0.false
