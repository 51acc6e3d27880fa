-- The temporal part of a search: 7.10.2.5 and 7.10.2.6 with the frame's distances and the block's place in the projection.
use Rattle.std.specs.Prelude.{ℕ, ◌+◌, ◌-◌, ◌*◌, ◌/◌, ◌%◌, Bool, eqb, ℤ, pos, nat_abs, get_or}
use Rattle.ground.specs.Pick.{pick}
use Rattle.cells.specs.declared.cell.Ref.{Ref}
use Rattle.frame.specs.declared.extent.sizes.Sizes.{Sizes}
use Rattle.frame.specs.declared.record.Frame.{Frame}
use Rattle.frame.specs.Record.{no_hint}
use Rattle.frame.specs.extent.Sizes.{projected_cells}
use Rattle.rows.specs.Setup.{Tile}
use Rattle.spatial.specs.declared.site.block.Site.{Site}
use Rattle.stack.specs.Stack.{State}
use Rattle.stack.specs.Answered.{Outcome, found}
use Rattle.temporal.specs.declared.aim.Aim.{Aim}
use Rattle.temporal.specs.declared.aim.CellRead.{CellRead}
use Rattle.temporal.specs.declared.sweep.Field.{Field}
use Rattle.temporal.specs.Temporal.{zero_of}
use Rattle.temporal.specs.Sweep.{temporal_of}
use Rattle.cells.specs.Cell.{is_ref}
use Rattle.search.specs.declared.front.ask.Ask.{Ask}
use Rattle.search.specs.front.Ask.{global_of}

-- the distance from a reference to the current frame, which the frame record holds to 31 either way
unfoldable pub distance_to : Frame → Ref → ℤ
distance_to f r = pick (is_ref r) (get_or f.refs (nat_abs r.0 - 1) no_hint).pocdiff (pos 0)

unfoldable pub aim_of : Frame → Ask → Aim
aim_of f a =
    record {
      compound = is_ref a.refs.second;
      first = distance_to f a.refs.first;
      second = distance_to f a.refs.second;
      integer = eqb a.integer 1;
      hp = eqb a.hp 1;
      gmv = (global_of a).first;
    }

-- a row of the projection for each row of cells, modulo 16, in the tile row's part
unfoldable pub field_of : Sizes → Tile → Site → Field
field_of z t b =
    record { first = t.proj + b.y.0 / 2 % 16 * z.stride.0 + b.x.0 / 2; stride = z.stride; total = projected_cells z }

unfoldable pub temporal_where : Bool → (ℕ → CellRead) → Aim → Field → Site → State → Outcome
temporal_where on cells a f b s = pick on (temporal_of cells a f b s) (found s)

unfoldable pub zero_where : Bool → (ℕ → CellRead) → Aim → Field → ℕ → ℕ
zero_where on cells a f header = pick on (zero_of a header (cells f.first)) header
