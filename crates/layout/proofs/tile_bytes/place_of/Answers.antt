-- `layout::tile_bytes::place_of` meets its contract.
use borrow.Author.Tests.{eq-eqb, ne_eqb}
use Rattle.layout.specs.TileBytes.{place_of}
use Rattle.layout.proofs.tile_bytes.place_of.Goals as goal

pub returns-then-n-eq-ABSENT : goal.returns-then-n-eq-ABSENT
unfolding place_of
returns-then-n-eq-ABSENT c = rw (eq-eqb _ _ c.if-n-eq-ABSENT.true)

pub returns-else-n-eq-ABSENT : goal.returns-else-n-eq-ABSENT
unfolding place_of
returns-else-n-eq-ABSENT c = rw (ne_eqb _ _ c.if-n-eq-ABSENT.false)
