-- What a question that is not refused tells: of the frame and the buffers, of the block in its tile, of the references and the global vectors.
-- Assumes nothing.
use mathlib.Core.Path.{◌≡◌, sym, ap, ◌∙◌}
use mathlib.Core.Bool.{Bool, true, false, ◌&&◌, ◌||◌, not}
use Prim.Native.Nat.{ℕ, ◌*◌, ◌^◌, ◌≤◌, ◌<◌, zero-le}
use native.Mathlib.Omega.{arith}
use lib.Dec.{leb, ltb}
use borrow.Author.Tests.{leb-true, ltb-true, ltb-false, ne_eqb, not-false}
use Rattle.ground.specs.Pick.{pick}
use Rattle.ground.proofs.Answers.{refused-not}
use Rattle.ground.proofs.Picks.{both}
use Rattle.vector.specs.declared.mv.Mv.{Mv}
use Rattle.vector.specs.Vector.{zero, Within, within}
use Rattle.vector.proofs.Vectors.{within-is}
use Rattle.cells.specs.declared.cell.Ref.{Ref}
use Rattle.cells.proofs.Sizes.{Narrow, narrow, size_is}
use Rattle.frame.specs.declared.extent.sizes.Sizes.{Sizes}
use Rattle.frame.specs.declared.record.Frame.{Frame}
use Rattle.frame.specs.Record.{well_frame}
use Rattle.frame.specs.extent.Sizes.{records, projected_cells}
use Rattle.frame.proofs.Records.{frame-sizes}
use Rattle.frame.proofs.extent.Sizing.{Fits, fits, eighths-most}
use Rattle.rows.specs.declared.setup.TileRange.{TileRange}
use Rattle.rows.specs.Setup.{Tile}
use Rattle.rows.specs.splats.Splat.{holds}
use Rattle.rows.proofs.Parts.{blocks-fit}
use Rattle.spatial.specs.Code.Site.{Placed}
use Rattle.cells.specs.Cell.{is_ref}
use Rattle.search.specs.declared.front.ask.Ask.{Ask}
use Rattle.search.specs.front.Ask.{flagged, paired, bounded, bounded_refs, askable, find_front, filling_of, global_of, dims_of, site_of}

-- cells of the projection fit the machine's numbers
pub projected-fit : (s : Sizes) → Fits s → projected_cells s < 2 ^ 36
unfolding projected_cells
projected-fit s f = omega (arith, blocks-fit s f)

-- a front that does not refuse
pub record Passed (f : Frame) (t : Tile) (a : Ask) (nrecs nproj : ℕ) : Type 0 where
  pub well : well_frame f ≡ true
  pub flags : flagged a ≡ true
  pub asked : askable f.sizes t.col t.row f.use_ref_frame_mvs a ≡ true
  pub listed : 12 * records f.sizes ≤ nrecs
  pub projected : (f.use_ref_frame_mvs ≡ 0 → ⊥) → 5 * projected_cells f.sizes ≤ nproj

pub passed : (f : Frame) (t : Tile) (a : Ask) (nrecs nproj : ℕ) → find_front f t a nrecs nproj ≡ 0 → Passed f t a nrecs nproj
unfolding find_front
passed f t a nrecs nproj e =
    let p1 = refused-not (not (well_frame f)) 0 _ e in
    let p2 = refused-not (not (flagged a)) 0 _ p1.1 in
    let p3 = refused-not (not (askable f.sizes t.col t.row f.use_ref_frame_mvs a)) 9 _ p2.1 in
    let p4 = refused-not (ltb nrecs (12 * records f.sizes)) 3 _ p3.1 in
    record {
      well = not-false _ p1.0;
      flags = not-false _ p2.0;
      asked = not-false _ p3.0;
      listed = ltb-false nrecs (12 * records f.sizes) p4.0;
      projected = λ on.
          let z = sym (ap (λ (b : Bool). pick b 0 (pick (ltb nproj (5 * projected_cells f.sizes)) 4 0)) (ne_eqb f.use_ref_frame_mvs 0 on)) ∙ p4.1 in
          ltb-false nproj (5 * projected_cells f.sizes) (refused-not (ltb nproj (5 * projected_cells f.sizes)) 3 0 z).0;
    }

-- a place that a tile's range holds
pub record Held (most : ℕ) (r : TileRange) (p : ℕ) : Type 0 where
  pub low : r.start.0 ≤ p
  pub high : p < r.end.0
  pub inside : r.end.0 ≤ most

held : (most : ℕ) (r : TileRange) (p : ℕ) → holds most r p ≡ true → Held most r p
unfolding holds
held most r p e =
    let h = both (leb r.start.0 p && ltb p r.end.0) (leb r.end.0 most) e in
    let g = both (leb r.start.0 p) (ltb p r.end.0) h.0 in
    record { low = leb-true r.start.0 p g.0; high = ltb-true p r.end.0 g.1; inside = leb-true r.end.0 most h.1 }

-- what may be asked
pub record Asked (s : Sizes) (col row : TileRange) (temporal : ℕ) (a : Ask) : Type 0 where
  pub size : a.bs ≤ 21
  pub across : Held s.iw4.0 col a.x.0
  pub down : Held s.ih4.0 row a.y.0
  pub refs : paired a.refs temporal ≡ true
  pub near : bounded_refs a ≡ true

pub asked : (s : Sizes) (col row : TileRange) (temporal : ℕ) (a : Ask) → askable s col row temporal a ≡ true → Asked s col row temporal a
unfolding askable
asked s col row temporal a e =
    let h4 = both _ (bounded_refs a) e in
    let h3 = both _ (paired a.refs temporal) h4.0 in
    let h2 = both _ (holds s.ih4.0 row a.y.0) h3.0 in
    let h1 = both (leb a.bs 21) (holds s.iw4.0 col a.x.0) h2.0 in
    record {
      size = leb-true a.bs 21 h1.0;
      across = held _ col _ h1.1;
      down = held _ row _ h2.1;
      refs = h3.1;
      near = h4.1;
    }

dims-narrow : (code : ℕ) → code ≤ 21 → Narrow (dims_of code)
unfolding dims_of
dims-narrow code h = let e = size_is code h in rw e.1 (narrow code e.0 e.1)

-- the block that a question is about lies in its tile, and the tile in the frame
module _ (f : Frame) (t : Tile) (a : Ask) (w : well_frame f ≡ true) (e : askable f.sizes t.col t.row f.use_ref_frame_mvs a ≡ true) where
  pub rows_inside : t.row.end.0 ≤ f.sizes.ih4.0
  rows_inside = (asked f.sizes t.col t.row f.use_ref_frame_mvs a e).down.inside

  pub columns-inside : t.col.end.0 ≤ f.sizes.iw4.0
  columns-inside = (asked f.sizes t.col t.row f.use_ref_frame_mvs a e).across.inside

  pub site-placed : Placed (site_of t a)
  unfolding site_of
  site-placed =
      let q = asked f.sizes t.col t.row f.use_ref_frame_mvs a e in
      let z = fits f.sizes (frame-sizes f w) in
      let d = dims-narrow a.bs q.size in
      record {
        top = q.down.low;
        left = q.across.low;
        above = q.down.high;
        before = q.across.high;
        high = omega (arith, q.down.inside, z.ih4, eighths-most f.sizes.height z.limits.height.fits);
        wide = omega (arith, q.across.inside, z.iw4, eighths-most f.sizes.width z.limits.width.fits);
        some = (d.some-w, d.some-h);
        most = (d.few-w, d.few-h);
      }

-- the vectors that fill up
filling-near : (r : Ref) (v : Mv) → bounded r v ≡ true → Within 16383 (filling_of r v)
unfolding bounded filling_of
filling-near r v e = by (is_ref r) e
  where
    by : (b : Bool) → (not b || within 16383 v) ≡ true → Within 16383 (pick b v zero)
    by true h = (within-is 16383 v).1 h
    by false h = record { y = zero-le; x = zero-le }

module _ (s : Sizes) (col row : TileRange) (temporal : ℕ) (a : Ask) (e : askable s col row temporal a ≡ true) where
  pub global-near : (Within 16383 (global_of a).first) × (Within 16383 (global_of a).second)
  unfolding global_of bounded_refs
  global-near =
      let b = both (bounded a.refs.first a.gmv.first) (bounded a.refs.second a.gmv.second) (asked s col row temporal a e).near in
      (filling-near a.refs.first a.gmv.first b.0, filling-near a.refs.second a.gmv.second b.1)
