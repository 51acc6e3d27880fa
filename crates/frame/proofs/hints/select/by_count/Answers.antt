-- `frame::hints::select::by_count` meets its contract.
use mathlib.Core.List.{[]}
use mathlib.Core.Path.{◌≡◌, sym, ap, ◌∙◌}
use native.Mathlib.Omega.{arith}
use Rattle.frame.specs.hints.Selection.{total_of, as_selection}
use Rattle.frame.proofs.hints.Selections.{grown, nothing, held, roomed, short-last, short-bwdref, room-altref, room-last2, after_last, after-bwdref, after-altref2, after-altref, all-turns}
use Rattle.frame.proofs.hints.select.by_count.Goals.{After-grown-s-3, After-grown-s-4}
use Rattle.frame.proofs.hints.select.by_count.Goals as goal

pub grown-s-requires-2 : goal.grown-s-requires-2
grown-s-requires-2 c =
    let e1 = grown [] 0 nothing c.last_wanted-last.ensures (λ h. omega arith) c.grown-s.ensures in
    λ h. omega (arith, held _ e1, short-last c.args.d c.args.present)

pub grown-s-requires-3 : goal.grown-s-requires-3
grown-s-requires-3 c =
    let d = c.args.d in
    let p = c.args.present in
    let e1 = grown [] 0 nothing c.last_wanted-last.ensures (λ h. omega arith) c.grown-s.ensures in
    let e2 = grown (after_last d p) 4 e1 c.lent_and_later.ensures (λ h. omega (arith, short-last d p)) c.grown-s-2.ensures in
    λ h. omega (arith, held _ e2, short-bwdref d p)

-- the selection after the turns of ALTREF2 and of ALTREF
altref2 : (c : After-grown-s-3) → c.grown-s-3.result ≡ as_selection (after-altref2 c.args.d c.args.present)
altref2 c =
    let d = c.args.d in
    let p = c.args.present in
    let e1 = grown [] 0 nothing c.last_wanted-last.ensures (λ h. omega arith) c.grown-s.ensures in
    let e2 = grown (after_last d p) 4 e1 c.lent_and_later.ensures (λ h. omega (arith, short-last d p)) c.grown-s-2.ensures in
    grown (after-bwdref d p) 5 e2 c.lent_and_later-2.ensures (λ h. omega (arith, short-bwdref d p)) c.grown-s-3.ensures

altref : (c : After-grown-s-4) → c.grown-s-3.result ≡ as_selection (after-altref2 c.args.d c.args.present)
    → c.grown-s-4.result ≡ as_selection (after-altref c.args.d c.args.present)
altref c e3 =
    let d = c.args.d in
    let p = c.args.present in
    let r4 = roomed (after-altref2 d p) e3 (c.total_of-total.ensures ∙ ap total_of c.last_wanted-last.ensures) c.lent_and_later-3.ensures c.has_room-room.ensures in
    grown (after-altref2 d p) 6 e3 r4 (room-altref d p) c.grown-s-4.ensures

pub grown-s-requires-4 : goal.grown-s-requires-4
grown-s-requires-4 c =
    let d = c.args.d in
    let p = c.args.present in
    let e3 = altref2 (goal.at.grown-s-requires-4 c).After-grown-s-3 in
    let r4 = roomed (after-altref2 d p) e3 (c.total_of-total.ensures ∙ ap total_of c.last_wanted-last.ensures) c.lent_and_later-3.ensures c.has_room-room.ensures in
    λ h. let l = room-altref d p (sym r4 ∙ h) in omega (arith, held _ e3)

pub grown-requires : goal.grown-requires
grown-requires c =
    let d = c.args.d in
    let p = c.args.present in
    let at = goal.at.grown-requires c in
    let e4 = altref at.After-grown-s-4 (altref2 at.After-grown-s-3) in
    let r5 = roomed (after-altref d p) e4 (c.total_of-total.ensures ∙ ap total_of c.last_wanted-last.ensures) c.is_lent.ensures c.has_room-room-2.ensures in
    λ h. let l = room-last2 d p (sym r5 ∙ h) in omega (arith, held _ e4)

pub returns : goal.returns
returns c =
    let d = c.args.d in
    let p = c.args.present in
    let at = goal.at.returns c in
    let e4 = altref at.After-grown-s-4 (altref2 at.After-grown-s-3) in
    let r5 = roomed (after-altref d p) e4 (c.total_of-total.ensures ∙ ap total_of c.last_wanted-last.ensures) c.is_lent.ensures c.has_room-room-2.ensures in
    grown (after-altref d p) 1 e4 r5 (room-last2 d p) c.grown.ensures ∙ ap as_selection (sym (all-turns d p))
