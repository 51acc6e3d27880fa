-- `motion::landing::land::shifts` meets its contract.
use Rattle.ground.proofs.Bits.{fits-abs}
use Rattle.vector.proofs.Projections.{projected-within}
use Rattle.vector.specs.Projection.{projected}
use Rattle.vector.specs.Vector.{both, Within}
use Rattle.vector.specs.declared.mv.Mv.{Mv}
use mir.Val.{to_z, of_z}
use mir.Syntax.{w16}
use mir.Facts.{to_z-of_z}
use lib.IntN.{ℤ, nat_abs}
use Prim.Native.Nat.{ℕ, ◌≤◌}
use native.Mathlib.Omega.{arith}
use mathlib.Core.Path.{◌≡◌, ap, ◌∙◌, subst⁻¹}
use Rattle.motion.proofs.landing.land.shifts.Goals as goal
use Rattle.motion.proofs.landing.land.shifts.Goals.{After-mv_projection-o}

-- the offset is the definition's, and within what a shift takes
got : (c : After-mv_projection-o) →
    let a = c.args in
    c.mv_projection-o.result ≡ both (projected a.m.cur a.den) a.c.mv
got c =
    let s = c in
    c.mv_projection-o.ensures ∙ ap (λ (n : ℤ). both (projected n s.args.den) s.args.c.mv) (to_z-of_z {w = w16} (fits-abs s.args.m.cur (omega arith)))

held : {v : Mv} (u : Mv) (num : ℤ) (den : ℕ) → v ≡ both (projected num den) u
    → ((to_z w16 (of_z w16 v.y) ≡ v.y) × (to_z w16 (of_z w16 v.x) ≡ v.x)) × ((nat_abs v.y ≤ 16383) × (nat_abs v.x ≤ 16383))
held {v} u num den e =
    let w : Within 16383 v = subst⁻¹ (Within 16383) e (projected-within num den u) in
    ((to_z-of_z {w = w16} (fits-abs v.y (omega arith)), to_z-of_z {w = w16} (fits-abs v.x (omega arith))), (w.y, w.x))

pub shift_of-y-requires : goal.shift_of-y-requires
shift_of-y-requires c = let h = held _ _ _ (got (goal.at.shift_of-y-requires c).After-mv_projection-o) in omega (arith, ap nat_abs h.0.0, h.1.0)

pub shift_of-x-requires : goal.shift_of-x-requires
shift_of-x-requires c = let h = held _ _ _ (got (goal.at.shift_of-x-requires c).After-mv_projection-o) in omega (arith, ap nat_abs h.0.1, h.1.1)
