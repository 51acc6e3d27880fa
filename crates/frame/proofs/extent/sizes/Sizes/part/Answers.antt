-- `frame::extent::sizes::Sizes::part` meets its contract.
use Rattle.frame.specs.extent.Sizes.{part_of}
use borrow.Author.Tests.{eq-eqb, ne_eqb}
use Rattle.frame.proofs.extent.sizes.Sizes.part.Goals as goal

pub returns-then-self-eq1 : goal.returns-then-self-eq1
unfolding part_of
returns-then-self-eq1 c = rw (eq-eqb _ _ c.if-self-eq1.true)

pub returns-else-self-eq1 : goal.returns-else-self-eq1
unfolding part_of
returns-else-self-eq1 c = rw (ne_eqb _ _ c.if-self-eq1.false)
