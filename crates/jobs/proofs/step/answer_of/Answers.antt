-- `jobs::step::answer_of` meets its contract.
use borrow.Author.Tests.{eq-eqb, ne_eqb}
use Rattle.jobs.specs.Step.{answer_of}
use Rattle.jobs.proofs.step.answer_of.Goals as goal

pub returns-then-number-eq0 : goal.returns-then-number-eq0
unfolding answer_of
returns-then-number-eq0 c = rw (eq-eqb _ 0 c.if-number-eq0.true)

pub returns-then-number-eq-DONE : goal.returns-then-number-eq-DONE
unfolding answer_of
returns-then-number-eq-DONE c = rw (ne_eqb _ 0 c.if-number-eq0.false, eq-eqb _ 15 c.if-number-eq-DONE.true)

pub returns : goal.returns
unfolding answer_of
returns c = rw (ne_eqb _ 0 c.if-number-eq0.false, ne_eqb _ 15 c.if-number-eq-DONE.false)
