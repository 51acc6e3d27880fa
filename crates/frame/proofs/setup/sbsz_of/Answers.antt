-- `frame::setup::sbsz_of` meets its contract.
use Rattle.frame.specs.extent.Sizes.{sbsz_of}
use borrow.Author.Tests.{eq-eqb, ne_eqb}
use Rattle.frame.proofs.setup.sbsz_of.Goals as goal

pub returns-then-sb128-eq1 : goal.returns-then-sb128-eq1
unfolding sbsz_of
returns-then-sb128-eq1 c = rw (eq-eqb _ _ c.if-sb128-eq1.true)

pub returns-else-sb128-eq1 : goal.returns-else-sb128-eq1
unfolding sbsz_of
returns-else-sb128-eq1 c = rw (ne_eqb _ _ c.if-sb128-eq1.false)
