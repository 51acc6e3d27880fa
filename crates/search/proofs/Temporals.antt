-- The temporal part: how far references lie, where the block's cells are, and what a front that is passed leaves to ask of them.
-- Assumes nothing.
use mathlib.Core.Path.{◌≡◌, refl, sym, ap, ◌∙◌}
use mathlib.Core.Bool.{Bool, true, false, ◌&&◌, not, true≢false}
use mathlib.Core.List.{List}
use Prim.Native.Nat.{ℕ, ◌-◌, ◌*◌, ◌/◌, ◌%◌, ◌^◌, ◌≤◌, ◌<◌, zero-le}
use native.Mathlib.Nat.{mul-le-mul}
use native.Mathlib.Omega.{arith}
use lib.Dec.{eqb, leb}
use lib.IntN.{pos, nat_abs}
use lib.ListN.{get_or}
use borrow.Author.Tests.{leb-true, eq-eqb}
use Rattle.ground.specs.Below.{all_below}
use Rattle.ground.specs.Pick.{pick}
use Rattle.ground.proofs.Belows.{at}
use Rattle.ground.proofs.Picks.{both}
use Rattle.ground.proofs.Signs.{from_is, from-to-most}
use Rattle.cells.specs.declared.cell.Ref.{Ref}
use Rattle.frame.specs.declared.extent.sizes.Sizes.{Sizes}
use Rattle.frame.specs.declared.hints.distances.RefHint.{RefHint}
use Rattle.frame.specs.declared.record.Frame.{Frame}
use Rattle.frame.specs.hints.Distances.{well_hint}
use Rattle.frame.specs.Mfmv.{no_mfmv, well_mfmv}
use Rattle.frame.specs.Record.{no_hint, well_frame}
use Rattle.frame.specs.extent.Sizes.{most_cells, stride_of, well_sizes}
use Rattle.frame.proofs.Records.{frame-sizes}
use Rattle.frame.proofs.extent.Sizing.{fits, stride_most}
use Rattle.rows.specs.Setup.{Tile}
use Rattle.layout.specs.FrameBytes.{sizes_at, frame_at}
use Rattle.layout.specs.TileBytes.{tile_at}
use Rattle.spatial.specs.declared.site.block.Site.{Site}
use Rattle.spatial.specs.Code.Site.{Placed}
use Rattle.temporal.specs.declared.aim.Aim.{Aim}
use Rattle.temporal.specs.declared.aim.CellRead.{CellRead}
use Rattle.temporal.specs.declared.aim.CellRead.TheVariants.{Of, Absent, Refused}
use Rattle.temporal.specs.declared.sweep.Field.{Field}
use Rattle.temporal.specs.Temporal.{zero_of, candidate_of, far_of}
use Rattle.temporal.specs.Code.Sweep.{Fielded}
use Rattle.cells.specs.Cell.{is_ref}
use Rattle.search.specs.declared.front.ask.Ask.{Ask}
use Rattle.search.specs.front.Ask.{site_of}
use Rattle.search.proofs.front.Contexts.{flag-most}
use Rattle.search.proofs.front.Fronts.{Passed, site-placed, global-near}
use Rattle.search.specs.Find.{timed}
use Rattle.search.specs.Parts.{distance_to, aim_of, field_of}
use Rattle.search.specs.Code.Parts.{TemporalRoom}

-- a reference has one of the seven hints
ref-place : (r : Ref) → is_ref r ≡ true → nat_abs r.0 - 1 < 7
unfolding is_ref
ref-place r t =
    let f = from_is 1 (pos 7) r.0 t in
    let n = from-to-most (pos 1) 7 f.n (rw f.is at t) in
    let e : nat_abs r.0 ≡ f.n = ap nat_abs f.is in
    omega arith

hint-near : (h : RefHint) → well_hint h ≡ true → nat_abs h.pocdiff ≤ 31
unfolding well_hint
hint-near h t = leb-true (nat_abs h.pocdiff) 31 (both (leb h.sign_bias 1 && leb h.mfmv_sign 1) (leb (nat_abs h.pocdiff) 31) t).1

frame-hints : (f : Frame) → well_frame f ≡ true → all_below 7 (λ i. well_hint (get_or f.refs i no_hint)) ≡ true
unfolding well_frame
frame-hints f w =
    let before = well_sizes f.sizes && leb f.use_ref_frame_mvs 1 && leb f.temporal 1 && leb f.n_mfmvs 3 in
    let hints = all_below 7 (λ i. well_hint (get_or f.refs i no_hint)) in
    (both before hints (both (before && hints) (all_below 3 (λ i. well_mfmv (get_or f.mfmvs i no_mfmv))) w).0).1

-- the header's flag is one
pub header-flag : (f : Frame) → well_frame f ≡ true → f.temporal ≤ 1
unfolding well_frame
header-flag f w =
    let flags = well_sizes f.sizes && leb f.use_ref_frame_mvs 1 in
    let before = flags && leb f.temporal 1 && leb f.n_mfmvs 3 in
    let hints = all_below 7 (λ i. well_hint (get_or f.refs i no_hint)) in
    let fields = (both before hints (both (before && hints) (all_below 3 (λ i. well_mfmv (get_or f.mfmvs i no_mfmv))) w).0).0 in
    leb-true f.temporal 1 (both flags (leb f.temporal 1) (both (flags && leb f.temporal 1) (leb f.n_mfmvs 3) fields).0).1

pub distance-near : (f : Frame) (r : Ref) → well_frame f ≡ true → nat_abs (distance_to f r) ≤ 31
unfolding distance_to
distance-near f r w = by (is_ref r) refl
  where
    by : (b : Bool) → is_ref r ≡ b → nat_abs (pick b (get_or f.refs (nat_abs r.0 - 1) no_hint).pocdiff (pos 0)) ≤ 31
    by true e =
        let i = nat_abs r.0 - 1 in
        hint-near (get_or f.refs i no_hint) (at (λ i. well_hint (get_or f.refs i no_hint)) 7 i (frame-hints f w) (ref-place r e))
    by false e = zero-le

-- the four bytes of a tile's start in the projection
pub proj-fits : (l : List ℕ) → ((i : ℕ) → get_or l i 0 < 256) → (tile_at l).proj < 2 ^ 32
unfolding tile_at
proj-fits l g = omega (arith, g 148, g 149, g 150, g 151)

-- the block's row of cells, of the 16 that a part has
pub row-most : (z : Sizes) (y : ℕ) → well_sizes z ≡ true → y / 2 % 16 * z.stride.0 ≤ 15 * most_cells
row-most z y w =
    let f = fits z w in
    mul-le-mul {n₂ = 15} {m₂ = most_cells} (omega arith) (omega (arith, f.stride, stride_most z.width f.limits.width.fits))

stride-some : (w : ℕ) → 1 ≤ w → 1 ≤ stride_of w
unfolding stride_of
stride-some w h = omega arith

pub fielded : (z : Sizes) (t : Tile) (b : Site) → well_sizes z ≡ true → Placed b → t.proj < 2 ^ 32 → Fielded (field_of z t b)
unfolding field_of
fielded z t b w p h =
    let f = fits z w in
    record {
      first = omega (arith, row-most z b.y.0 w, p.before, p.wide);
      some = omega (arith, f.stride, stride-some z.width f.limits.width.some);
      stride = omega (arith, f.stride, stride_most z.width f.limits.width.fits);
    }

pub field_fits : (f : Frame) (t : Tile) (b : Site) → well_frame f ≡ true → Placed b → t.proj < 2 ^ 32 → Fielded (field_of f.sizes t b)
field_fits f t b w p h = fielded f.sizes t b (frame-sizes f w) p h

-- the zero-motion context is a flag where the header's is
pub zero-most : (a : Aim) (header : ℕ) (r : CellRead) → header ≤ 1 → zero_of a header r ≤ 1
unfolding zero_of
zero-most a header (Of c) h = flag-most (far_of (candidate_of a c).first a.gmv) refl
zero-most a header Absent h = h
zero-most a header (Refused n) h = h

-- all that the temporal part asks, from a front that is passed
pub passed-room : (f : Frame) (t : Tile) (a : Ask) (nrecs nproj : ℕ) → Passed f t a nrecs nproj → t.proj < 2 ^ 32
    → TemporalRoom (not (eqb f.use_ref_frame_mvs 0)) nproj (field_of f.sizes t (site_of t a)) (site_of t a) (aim_of f a)
unfolding field_of aim_of
passed-room f t a nrecs nproj p h =
    let b = site-placed f t a p.well p.asked in
    record {
      near = λ on.
          record {
            cells = p.projected (λ e. true≢false (sym on ∙ ap not (eq-eqb f.use_ref_frame_mvs 0 e)));
            first = distance-near f a.refs.first p.well;
            second = distance-near f a.refs.second p.well;
          };
      field = field_fits f t (site_of t a) p.well b h;
      placed = b;
      global = (global-near f.sizes t.col t.row f.use_ref_frame_mvs a p.asked).0;
    }

-- the same of what the code reads out of its bytes
pub room : (l tl : List ℕ) (a : Ask) {nrecs nproj : ℕ} {z : Sizes} {b : Site} {fd : Field} {m : Aim} {on : Bool}
    → z ≡ sizes_at l → b ≡ site_of (tile_at tl) a → fd ≡ field_of z (tile_at tl) b → m ≡ aim_of (frame_at l) a → on ≡ timed (frame_at l)
    → Passed (frame_at l) (tile_at tl) a nrecs nproj → (tile_at tl).proj < 2 ^ 32
    → TemporalRoom on nproj fd b m
unfolding frame_at
room l tl a ze be fe me oe p h = rw (me, fe, be, ze, oe) (passed-room (frame_at l) (tile_at tl) a _ _ p h)
