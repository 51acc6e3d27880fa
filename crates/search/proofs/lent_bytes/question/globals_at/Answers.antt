-- `search::lent_bytes::question::globals_at` meets its contract.
use Rattle.search.specs.lent_bytes.Question.{globals_at}
use Rattle.search.proofs.lent_bytes.question.globals_at.Goals as goal

pub returns : goal.returns
unfolding globals_at
returns c = rw (c.read.ensures, c.read-2.ensures)
