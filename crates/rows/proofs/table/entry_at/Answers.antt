-- `rows::table::entry_at` meets its contract.
use native.Mathlib.Omega.{arith}
use Rattle.rows.proofs.Tabled.{side-most, row-most}
use Rattle.rows.specs.Table.{placed, entry_at}
use Rattle.std.proofs.Common.{rules}
use Rattle.rows.proofs.table.entry_at.Goals as goal

pub row_at-requires : goal.row_at-requires
row_at-requires c = side-most _ c.requires.0

pub map-at-requires : goal.map-at-requires
map-at-requires c = λ x e. let h = row-most _ _ _ c.args.stride c.row_at.ensures e in (λ _ _ _ _ _ _. record { fits = omega (arith, c.requires.1, h) }, λ _ _ _ _ _ _. record { fits = omega (arith, c.requires.1, h) })

pub returns : goal.returns
unfolding entry_at placed
returns c = search rules
