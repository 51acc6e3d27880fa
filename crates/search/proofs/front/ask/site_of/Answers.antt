-- `search::front::ask::site_of` meets its contract.
use Rattle.search.specs.front.Ask.{site_of}
use Rattle.search.proofs.front.ask.site_of.Goals as goal

pub returns : goal.returns
unfolding site_of
returns c = rw (← c.columns_at-col.ensures, ← c.rows_at-row.ensures, ← c.dims_of-d.ensures)
