-- `search::lent_bytes::store::put_candidate` meets its contract.
use Rattle.search.proofs.lent_bytes.Stored.{candidate-laid}
use Rattle.search.proofs.lent_bytes.store.put_candidate.Goals as goal

pub returns : goal.returns
returns c = let a = c.args in candidate-laid a.compound a.i a.c _ c.write.ensures c.put_second.ensures c.put_u32.ensures
