-- `search::find::go_on` meets its contract.
use mathlib.Core.Path.{sym, ◌∙◌}
use native.Mathlib.Omega.{arith}
use Rattle.spatial.proofs.around.Steps.{went_on, went-not}
use Rattle.stack.proofs.Answers as answers
use Rattle.search.proofs.front.Fronts.{passed}
use Rattle.search.proofs.Temporals.{header-flag, room}
use Rattle.search.proofs.Finds.{is-refused, past, sizes-fit, placed, taken, timed-light, far-light, timed-asked, still-asked, far-asked, goes-not, goes-no-farther, goes_on}
use Rattle.search.proofs.find.go_on.Goals as goal

pub field_of-f-requires : goal.field_of-f-requires
field_of-f-requires c =
    let s = c in
    let q = past (passed _ _ _ _ _ s.requires.0) s.requires.1 in
    let z = c.sizes_at-z.ensures in
    let b = c.site_of-b.ensures in
    (c.args.records.tiled, sizes-fit _ _ _ z b q, placed _ _ _ z b q)

pub temporal_where-timed-requires : goal.temporal_where-timed-requires
temporal_where-timed-requires c =
    let f = c in
    let s = f in
    let r = c.raise.ensures in
    let p = passed _ _ _ _ _ s.requires.0 in (
      room _ _ _ f.sizes_at-z.ensures f.site_of-b.ensures f.field_of-f.ensures.0 f.aim_of-aim.ensures f.is_timed-on.ensures p f.field_of-f.ensures.1,
      r.0,
      timed-light s.requires.4 r.3,
    )

pub returns-then-timed-ne0-clause-s_after : goal.returns-then-timed-ne0-clause-s_after
returns-then-timed-ne0-clause-s_after c =
    let w = c.temporal_where-timed.ensures in
    let f = c in
    let t = timed-asked _ _ _ f.sizes_at-z.ensures f.site_of-b.ensures _ f.field_of-f.ensures.0 f.aim_of-aim.ensures f.is_timed-on.ensures _ c.raise.ensures.2 w.s_after in
    is-refused _ _ c.refuse.ensures c.if-timed-ne0.true ∙ sym (goes-not _ _ _ _ _ _ _ _ (t ∙ answers.is-refused _ _ c.if-timed-ne0.true))

pub far-all-requires : goal.far-all-requires
far-all-requires c =
    let s = c in
    let q = past (passed _ _ _ _ _ s.requires.0) s.requires.1 in
    let z = c.sizes_at-z.ensures in
    let b = c.site_of-b.ensures in
    let t = c.temporal_where-timed.ensures.held in
    (placed _ _ _ z b q, t.0, far-light s.requires.4 c.raise.ensures.3 t.1, s.requires.5, s.requires.6)

pub returns-then-all-ne0-clause-s_after : goal.returns-then-all-ne0-clause-s_after
returns-then-all-ne0-clause-s_after c =
    let w = c in
    let f = w in
    let z = f.sizes_at-z.ensures in
    let b = f.site_of-b.ensures in
    let t = timed-asked _ _ _ z b _ f.field_of-f.ensures.0 f.aim_of-aim.ensures f.is_timed-on.ensures _ w.raise.ensures.2 w.temporal_where-timed.ensures.s_after ∙ answers.is_found _ _ c.if-timed-ne0.false in
    let g = far-asked _ _ _ b c.want_of.ensures _ _ _ c.far-all.ensures.s_after in
    is-refused _ _ c.refuse-then-all-ne0.ensures c.if-all-ne0.true ∙ sym (goes-no-farther _ _ _ _ _ _ _ _ t (g ∙ went-not _ _ c.if-all-ne0.true))

pub zero_where-zero-requires : goal.zero_where-zero-requires
zero_where-zero-requires c =
    let f = c in
    let s = f in
    let p = passed _ _ _ _ _ s.requires.0 in
    (room _ _ _ f.sizes_at-z.ensures f.site_of-b.ensures f.field_of-f.ensures.0 f.aim_of-aim.ensures f.is_timed-on.ensures p f.field_of-f.ensures.1, omega (arith, header-flag _ p.well, f.temporal_in-header.ensures))

pub conclude-requires : goal.conclude-requires
conclude-requires c =
    let s = c in
    let q = past (passed _ _ _ _ _ s.requires.0) s.requires.1 in
    (q, c.zero_where-zero.ensures.1, c.take_nearest-first.ensures.1, c.far-all.ensures.held)

pub returns-clause-s_after : goal.returns-clause-s_after
returns-clause-s_after c =
    let w = c in
    let n = w in
    let f = n in
    let z = f.sizes_at-z.ensures in
    let b = f.site_of-b.ensures in
    let fe = f.field_of-f.ensures.0 in
    let me = f.aim_of-aim.ensures in
    let oe = f.is_timed-on.ensures in
    let t = timed-asked _ _ _ z b _ fe me oe _ w.raise.ensures.2 w.temporal_where-timed.ensures.s_after ∙ answers.is_found _ _ c.if-timed-ne0.false in
    let g = far-asked _ _ _ b c.want_of.ensures _ _ _ c.far-all.ensures.s_after ∙ went_on _ _ c.if-all-ne0.false in
    let h = still-asked _ _ _ z b _ fe me oe f.temporal_in-header.ensures c.zero_where-zero.ensures.0 in
    let e = c.conclude.ensures in
    e.s_after ∙ taken _ _ _ _ _ _ _ f.requires.3 n.take_nearest-first.ensures.0 ∙ goes_on _ _ _ _ _ _ _ _ t h g
