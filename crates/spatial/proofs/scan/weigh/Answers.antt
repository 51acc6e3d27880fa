-- `spatial::scan::weigh` meets its contract.
use borrow.Author.Tests.{eq-eqb, ne_eqb}
use Rattle.spatial.specs.Scan.{weight_of}
use Rattle.spatial.proofs.scan.weigh.Goals as goal

pub returns-then-p-eq1 : goal.returns-then-p-eq1
unfolding weight_of
returns-then-p-eq1 c = rw (eq-eqb _ _ c.if-p-eq1.true)

pub returns : goal.returns
unfolding weight_of
returns c = rw (ne_eqb _ _ c.if-p-eq1.false, ← c.least.ensures) c.most.ensures
