-- `vector::precision::fix_mv_precision` meets its contract.
use native.Mathlib.Omega.{arith}
use mathlib.Core.Path.{sym, ap, ◌∙◌}
use mir.Syntax.{w16}
use mir.Facts.{to_z-of_z}
use Rattle.vector.specs.Precision.{lowered}
use Rattle.ground.proofs.Bits.{fits-abs, kept}
use Rattle.vector.proofs.Vectors.{vector}
use Rattle.vector.proofs.Precisions.{kept_high}
use Rattle.vector.proofs.precision.fix_mv_precision.Goals as goal

pub returns-then-keeps : goal.returns-then-keeps
returns-then-keeps c =
    let a = c.args in
    kept_high a.integer a.hp a.mv (sym c.keeps.ensures ∙ c.if-keeps.true)

pub returns : goal.returns
returns c =
    let s = c in
    let f = lowered s.args.integer s.args.hp in
    let r = c.lower-y in
    vector (kept w16 r.type_inv (r.ensures ∙ ap f (to_z-of_z {w = w16} (fits-abs s.args.mv.y (omega arith)))))
    (kept w16 c.lower-x.type_inv (c.lower-x.ensures ∙ ap f (to_z-of_z {w = w16} (fits-abs s.args.mv.x (omega arith)))))
