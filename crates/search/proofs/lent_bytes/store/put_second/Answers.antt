-- `search::lent_bytes::store::put_second` meets its contract.
use Rattle.search.proofs.lent_bytes.Stored.{second-laid, no_second}
use Rattle.search.proofs.lent_bytes.store.put_second.Goals as goal

pub returns-then-compound : goal.returns-then-compound
returns-then-compound c = let a = c.args in second-laid a.compound a.i a.v _ c.if-compound.true c.write.ensures

pub returns-else-compound : goal.returns-else-compound
returns-else-compound c = let a = c.args in no_second a.compound a.i a.v _ c.if-compound.false
