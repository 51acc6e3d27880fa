-- `temporal::sweep::Swept::corners` meets its contract.
use Rattle.std.proofs.Common.{◌≡◌, ℕ, ◌*◌, ◌/◌, ◌&&◌, ap, sym, ◌∙◌, arith}
use Rattle.temporal.specs.Sweep.{corners_of, leftward}
use Rattle.ground.proofs.Picks.{and-on, and-off}
use Rattle.temporal.proofs.Sweeps.{Under, under}
use Rattle.temporal.proofs.sweep.Swept.corners.Goals as goal
use Rattle.temporal.proofs.sweep.Swept.corners.Goals.{After-halved-h8, then-below, else-below, then-right, else-right, then-right-2, else-right-2}

-- the block's sides in cells, and the numbers around it
known : (c : After-halved-h8) → Under c.args.self.now.field c.args.b
known c = under _ _ c.args.self.now.fielded c.requires.3

rows : (c : After-halved-h8) → c.halved-h8.result.0 * c.args.self.now.field.stride.0 ≡ c.args.b.h.0 / 2 * c.args.self.now.field.stride.0
rows c = ap (λ (n : ℕ). n * c.args.self.now.field.stride.0) c.halved-h8.ensures

pub overflow_sub-under : goal.overflow_sub-under
overflow_sub-under c =
    let h = (goal.at.overflow_sub-under c).After-halved-h8 in
    omega (arith, rows h, (known h).least, c.args.self.now.fielded.some)

pub overflow_sub-h8 : goal.overflow_sub-h8
overflow_sub-h8 c =
    let h = (goal.at.overflow_sub-h8 c).After-halved-h8 in
    omega (arith, h.halved-h8.ensures, (known h).some)

pub overflow_sub-under-2 : goal.overflow_sub-under-2
overflow_sub-under-2 c =
    let h = (goal.at.overflow_sub-under-2 c).After-halved-h8 in
    omega (arith, rows h, (known h).least)

pub returns-clause-s_after : goal.returns-clause-s_after
unfolding corners_of
returns-clause-s_after c =
    let one : c.if-below.visit_where ≡ (c.is_there-below.result && leftward c.args.b) = elim c.if-below.branch [
      | then-below w ↦ w.visit_where-is ∙ w.is_left.ensures ∙ sym (and-on w.if-below.true)
      | else-below w ↦ w.visit_where-is ∙ w.if-below.false ∙ sym (and-off _ w.if-below.false)
    ] in
    let two : c.if-right.visit_where ≡ (c.is_there-right.result && c.is_there-below.result) = elim c.if-right.branch [
      | then-right w ↦ w.visit_where-is ∙ sym (and-on w.if-right.true)
      | else-right w ↦ w.visit_where-is ∙ w.if-right.false ∙ sym (and-off _ w.if-right.false)
    ] in
    let three : c.if-right-2.visit_where ≡ (c.is_there-right.result && c.is_there-last.result) = elim c.if-right-2.branch [
      | then-right-2 w ↦ w.visit_where-is ∙ sym (and-on w.if-right-2.true)
      | else-right-2 w ↦ w.visit_where-is ∙ w.if-right-2.false ∙ sym (and-off _ w.if-right-2.false)
    ] in
    rw (
      c.visit_where.ensures.s_after,
      c.visit_where-two.ensures.s_after,
      c.visit_where-one.ensures.s_after,
      three,
      c.is_there-last.ensures,
      two,
      one,
      c.is_there-right.ensures,
      c.is_there-below.ensures,
      c.halved-h8.ensures,
      c.halved-w8.ensures,
    )
