-- `search::find::find` meets its contract.
use mathlib.Core.Path.{sym, ◌∙◌}
use native.Mathlib.Omega.{arith}
use Rattle.spatial.proofs.around.Steps.{went_on, went-not}
use Rattle.search.proofs.front.Fronts.{passed}
use Rattle.search.proofs.Finds.{is-refused, past, sizes-fit, placed, as_many, near-asked, searches-not, searches, fronts-not, fronts-listed}
use Rattle.search.proofs.find.find.Goals as goal

pub returns-then-front-ne0-clause-s_after : goal.returns-then-front-ne0-clause-s_after
returns-then-front-ne0-clause-s_after c =
    let n = c.if-front-ne0.true in
    let e = c.refuse.ensures in
    is-refused _ _ e n ∙ fronts-not _ _ _ _ _ c.find_front-front.ensures n

pub records-requires : goal.records-requires
records-requires c =
    let s = c in
    let e = sym c.find_front-front.ensures ∙ c.if-front-ne0.false in
    sizes-fit _ _ _ c.sizes_at-z.ensures c.site_of-b.ensures (past (passed _ _ _ _ _ e) s.requires.0)

pub invariant_of-records : goal.invariant_of-records
invariant_of-records c =
    let p = passed _ _ _ _ _ (sym c.find_front-front.ensures ∙ c.if-front-ne0.false) in
    let n = as_many _ _ _ c.sizes_at-z.ensures c.site_of-b.ensures (past p c.requires.0) c.records.ensures in
    record { tiled = c.requires.1; listed = omega (arith, p.listed, n) }

pub near-n-requires : goal.near-n-requires
near-n-requires c =
    let m = c in
    let s = m in
    let e = sym m.find_front-front.ensures ∙ m.if-front-ne0.false in
    let q = past (passed _ _ _ _ _ e) s.requires.0 in
    let z = m.sizes_at-z.ensures in
    let b = m.site_of-b.ensures in
    (placed _ _ _ z b q, s.requires.2)

pub returns-then-n-ne0-clause-s_after : goal.returns-then-n-ne0-clause-s_after
returns-then-n-ne0-clause-s_after c =
    let m = c in
    let n = c.if-n-ne0.true in
    let r = c.refuse-then-n-ne0.ensures in
    let e = sym m.find_front-front.ensures ∙ m.if-front-ne0.false in
    let a = near-asked _ _ _ m.site_of-b.ensures c.want_of.ensures c.near-n.ensures.s_after in
    is-refused _ _ r n ∙ sym (searches-not _ _ _ _ _ (a ∙ went-not _ _ n)) ∙ fronts-listed _ _ _ _ _ (as_many _ _ _ m.sizes_at-z.ensures m.site_of-b.ensures (past (passed _ _ _ _ _ e) m.requires.0) m.records.ensures) e

pub returns-clause-s_after : goal.returns-clause-s_after
returns-clause-s_after c =
    let m = c in
    let g = c.go_on.ensures in
    let e = sym m.find_front-front.ensures ∙ m.if-front-ne0.false in
    let a = near-asked _ _ _ m.site_of-b.ensures c.want_of.ensures c.near-n.ensures.s_after in
    g.s_after ∙ sym (searches _ _ _ _ _ (a ∙ went_on _ _ c.if-n-ne0.false)) ∙ fronts-listed _ _ _ _ _ (as_many _ _ _ m.sizes_at-z.ensures m.site_of-b.ensures (past (passed _ _ _ _ _ e) m.requires.0) m.records.ensures) e
