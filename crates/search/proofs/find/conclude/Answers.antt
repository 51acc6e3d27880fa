-- `search::find::conclude` meets its contract.
use mathlib.Core.Path.{refl, sym, ap, ap₂, ◌∙◌}
use Rattle.cells.specs.Block.{MvPair}
use Rattle.stack.proofs.Answers as answers
use Rattle.search.proofs.Finds.{is-refused, placed, reaching, sizes-are, sorts, extra-asked, concludes-not, contexts, ends}
use Rattle.search.specs.Find.{reach_of}
use Rattle.search.proofs.find.conclude.Goals as goal

pub extend-last-requires : goal.extend-last-requires
extend-last-requires c =
    let p = c.requires.0 in
    (placed _ _ _ c.sizes_at-z.ensures c.site_of-b.ensures p, p.frame, c.sort_parts.ensures.0)

pub returns-then-last-ne0-clause-s_after : goal.returns-then-last-ne0-clause-s_after
returns-then-last-ne0-clause-s_after c =
    let e = c.extend-last.ensures in
    let o = c in
    let m = c in
    let s = m in
    let v = sorts s.args.near.count s.args.s.now _ s.requires.3 o.count_in.ensures o.min.ensures o.sort_parts.ensures.2 in
    let x = extra-asked _ _ _ s.args.a m.site_of-b.ensures c.global_of-global.ensures v e.s_after in
    is-refused _ _ c.refuse.ensures c.if-last-ne0.true ∙ sym (concludes-not _ _ _ _ _ _ _ _ _ (x ∙ answers.is-refused _ _ c.if-last-ne0.true))

pub reach_of-requires : goal.reach_of-requires
reach_of-requires c = reaching _ _ _ c.sizes_at-z.ensures c.site_of-b.ensures c.requires.0

pub returns-clause-s_after : goal.returns-clause-s_after
returns-clause-s_after c =
    let e = c in
    let o = e in
    let g = o in
    let m = g in
    let s = m in
    let z = m.sizes_at-z.ensures in
    let b = m.site_of-b.ensures in
    let n = s.args.near in
    let v = sorts n.count s.args.s.now _ s.requires.3 o.count_in.ensures o.min.ensures o.sort_parts.ensures.2 in
    let x = extra-asked _ _ _ s.args.a b g.global_of-global.ensures v e.extend-last.ensures.s_after in ends _ _ _ s.args.a s.args.zero n.count n.matched n.newmv _ _ _ (x ∙ answers.is_found _ _ c.if-last-ne0.false) c.clamp.ensures.2
    (c.reach_of.ensures ∙ ap₂ reach_of (sizes-are _ _ _ z b s.requires.0) b)
    (c.context_of-context.ensures ∙ contexts _ _ c.is_ref-compound.ensures refl c.matches-matched.ensures.0)
    (ap (λ (p : MvPair). p.first) g.global_of-global.ensures)
