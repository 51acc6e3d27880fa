-- `search::extra::lists::Single::extend` meets its contract.
use mathlib.Core.Path.{◌≡◌, sym, ◌∙◌}
use mathlib.Core.Bool.{true}
use native.Mathlib.Omega.{arith}
use Rattle.cells.specs.Cell.{is_ref}
use Rattle.search.specs.extra.Lists.{lists_of, all_of, extended_by}
use Rattle.search.proofs.extra.Turns.{near_first, near-second}
use Rattle.search.proofs.extra.lists.Single.extend.Goals as goal

pub returns-then-not-is_ref : goal.returns-then-not-is_ref
unfolding extended_by lists_of all_of
returns-then-not-is_ref c = (c.requires.1, omega arith, rw (← c.is_ref.ensures, c.if-not-is_ref.true))

pub extend_by-requires : goal.extend_by-requires
extend_by-requires c =
    let s = c in
    let i = c.is_ref in
    let t : is_ref s.args.k.refs.first ≡ true = sym i.ensures ∙ c.if-not-is_ref.false in
    let p = s.requires in
    (t, near_first s.args.k p.0 t, p.1, omega (arith, p.2))

pub returns-then-not-is_ref-2 : goal.returns-then-not-is_ref-2
unfolding extended_by lists_of all_of
returns-then-not-is_ref-2 c =
    let e = c in
    let i = e.is_ref in
    let j = c.is_ref-2 in
    let t = e.extend_by.ensures in (
      t.0,
      omega (arith, t.1, e.requires.2),
      rw (← i.ensures, e.if-not-is_ref.false, ← j.ensures, c.if-not-is_ref-2.true)
          t.2,
    )

pub extend_by-requires-2 : goal.extend_by-requires-2
extend_by-requires-2 c =
    let s = c in
    let i = c.is_ref-2 in
    let t : is_ref s.args.k.refs.second ≡ true = sym i.ensures ∙ c.if-not-is_ref-2.false in
    let p = s.requires in
    let e = c.extend_by.ensures in
    (t, near-second s.args.k p.0 t, e.0, omega (arith, p.2, e.1))

pub returns : goal.returns
unfolding extended_by lists_of all_of
returns c =
    let e = c in
    let i = e.is_ref in
    let j = c.is_ref-2 in
    let t = e.extend_by.ensures in
    let u = c.extend_by-2.ensures in (
      u.0,
      omega (arith, t.1, u.1, e.requires.2),
      rw (← i.ensures, e.if-not-is_ref.false, ← j.ensures, c.if-not-is_ref-2.false)
          (rw t.2 at u.2),
    )
