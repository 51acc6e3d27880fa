-- What is asked of a search, and what it refuses before it reads: document 01's 1, 10 and 4.
use Rattle.std.specs.Prelude.{Option, None, Some}
use Rattle.std.specs.Prelude.{ℕ, ◌*◌, Bool, ◌&&◌, ◌||◌, not, eqb, leb, ltb, pos, negsuc}
use Rattle.ground.specs.Pick.{pick}
use Rattle.ground.specs.Sign.{eq_z}
use Rattle.vector.specs.declared.mv.Mv.{Mv}
use Rattle.vector.specs.Vector.{zero, invalid, within}
use Rattle.cells.specs.declared.cell.Ref.{Ref}
use Rattle.cells.specs.Block.{MvPair}
use Rattle.cells.specs.Block.{RefPair}
use Rattle.cells.specs.declared.size.Dims.{Dims}
use Rattle.cells.specs.Size.{size_of}
use Rattle.frame.specs.declared.extent.sizes.Sizes.{Sizes}
use Rattle.frame.specs.declared.record.Frame.{Frame}
use Rattle.frame.specs.Record.{well_frame}
use Rattle.frame.specs.extent.Sizes.{records, projected_cells}
use Rattle.rows.specs.declared.setup.TileRange.{TileRange}
use Rattle.rows.specs.Setup.{Tile}
use Rattle.rows.specs.splats.Splat.{holds}
use Rattle.spatial.specs.declared.neighbours.want.Want.{Want}
use Rattle.spatial.specs.declared.site.block.Site.{Site}
use Rattle.cells.specs.Cell.{is_ref}
use Rattle.search.specs.declared.front.ask.Ask.{Ask}

abbrev pub is_flag : ℕ → Bool
is_flag n = leb n 1

unfoldable pub flagged : Ask → Bool
flagged a = is_flag a.decoded && is_flag a.first_above && is_flag a.second_above && is_flag a.integer && is_flag a.hp

-- NONE is -1, `negsuc 0`: references ( 0..7, -1 ) or ( 1..7, 1..7 ); reference 0 only with temporal search off
unfoldable pub paired : RefPair → ℕ → Bool
paired refs temporal =
    is_ref refs.first && (is_ref refs.second || eq_z refs.second.0 (negsuc 0))
    || eq_z refs.first.0 (pos 0) && eq_z refs.second.0 (negsuc 0) && eqb temporal 0

-- a global vector that is used lies within ±16,383
unfoldable pub bounded : Ref → Mv → Bool
bounded r v = not (is_ref r) || within 16383 v

unfoldable pub bounded_refs : Ask → Bool
bounded_refs a = bounded a.refs.first a.gmv.first && bounded a.refs.second a.gmv.second

unfoldable pub askable : Sizes → TileRange → TileRange → ℕ → Ask → Bool
askable s col row temporal a =
    leb a.bs 21 && holds s.iw4.0 col a.x.0 && holds s.ih4.0 row a.y.0 && paired a.refs temporal && bounded_refs a

-- temporal search is on where the frame has a selected reference; only then the projection is used
unfoldable pub find_front : Frame → Tile → Ask → (nrecs nproj : ℕ) → ℕ
find_front f t a nrecs nproj =
    pick (not (well_frame f)) 1
    (pick (not (flagged a)) 1
    (pick (not (askable f.sizes t.col t.row f.use_ref_frame_mvs a)) 10
    (pick (ltb nrecs (12 * records f.sizes)) 4
    (pick (eqb f.use_ref_frame_mvs 0) 0
    (pick (ltb nproj (5 * projected_cells f.sizes)) 4 0)))))

-- setup of the global vectors (7.10.2.1, here inputs): in place of a neighbour's own where the type is above translation,
unfoldable pub replacing_of : Ref → ℕ → Mv → Mv
replacing_of r above v = pick (is_ref r && eqb above 1) v invalid

unfoldable pub want_of : Ask → Want
want_of a =
    record {
      refs = a.refs;
      gmv =
          record {
            first = replacing_of a.refs.first a.first_above a.gmv.first;
            second = replacing_of a.refs.second a.second_above a.gmv.second;
          };
    }

-- and to fill up with: INTRA and NONE have the zero vector
unfoldable pub filling_of : Ref → Mv → Mv
filling_of r v = pick (is_ref r) v zero

unfoldable pub global_of : Ask → MvPair
global_of a = record { first = filling_of a.refs.first a.gmv.first; second = filling_of a.refs.second a.gmv.second }

-- a code above 21, which is refused, has no sides
abbrev pub dims_in : Option Dims → Dims
dims_in (Some d) = d
dims_in None = record { w = record { 0 = 0 }; h = record { 0 = 0 } }

unfoldable pub dims_of : ℕ → Dims
dims_of code = dims_in (size_of code)

-- the block in its tile
unfoldable pub site_of : Tile → Ask → Site
site_of t a = record { y = a.y; x = a.x; w = (dims_of a.bs).w; h = (dims_of a.bs).h; col = t.col; row = t.row }
