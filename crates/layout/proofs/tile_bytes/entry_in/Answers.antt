-- `layout::tile_bytes::entry_in` meets its contract.
use mathlib.Core.Path.{ap, ◌∙◌}
use Rattle.rows.specs.declared.table.RowEntry.{RowEntry}
use Rattle.layout.proofs.Read.{entry_here, entry_past}
use Rattle.layout.proofs.tile_bytes.entry_in.Goals as goal

pub returns-then-e-lt37 : goal.returns-then-e-lt37
returns-then-e-lt37 c = ap (λ (r : RowEntry). r.at) c.entry_at.ensures ∙ entry_here _ _ c.if-e-lt37.true

pub returns : goal.returns
returns c = entry_past _ _ c.if-e-lt37.false
