-- `jobs::admit::are_apart` meets its contract.
use Rattle.std.proofs.Common.{rules}
use borrow.Author.Tests.{tests}
use Rattle.jobs.specs.Admit.{alone_at, apart}
use Rattle.jobs.proofs.Ranges.{range-all}
use Rattle.jobs.proofs.admit.are_apart.Goals as goal

pub returns : goal.returns
unfolding apart
returns c = let s = c.args in range-all s.batch.n (alone_at s.f s.batch) c.all.ensures.ran (λ x q k. search (rules, tests)) (λ x q k. search (rules, tests))
