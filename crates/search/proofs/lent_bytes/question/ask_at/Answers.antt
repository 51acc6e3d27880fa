-- `search::lent_bytes::question::ask_at` meets its contract.
use Rattle.search.specs.lent_bytes.Question.{ask_at}
use Rattle.search.proofs.lent_bytes.question.ask_at.Goals as goal

pub returns : goal.returns
unfolding ask_at
returns c = rw (c.refs_at-refs.ensures, c.globals_at-gmv.ensures, c.size_at.ensures, c.size_at-2.ensures)
