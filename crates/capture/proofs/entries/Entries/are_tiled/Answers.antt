-- `capture::entries::Entries::are_tiled` meets its contract.
use mathlib.Core.Path.{◌≡◌, sym, ap, ◌∙◌}
use Prim.Native.Nat.{ℕ, ◌+◌, ◌*◌}
use native.Mathlib.Omega.{arith}
use lib.Dec.{eqb}
use lib.ListN.{length}
use borrow.Author.Tests.{eq-eqb, ne_eqb}
use Rattle.ground.proofs.Belows as belows
use Rattle.ground.proofs.Picks.{and-on, and-off}
use Rattle.capture.specs.File.{entries, offset_at, start_of, tiled}
use Rattle.capture.proofs.Files.{start_first, start-on}
use Rattle.capture.proofs.entries.Entries.are_tiled.Goals as goal

pub loop-i-init : goal.loop-i-init
loop-i-init c =
    let s = c.args.self.now in
    let e = c.count-n.ensures in
    (ap (λ (m : ℕ). 1 + 9 * m) e ∙ sym (start_first s.file.now), omega (arith, e, s.few), belows.none _)

pub returns-then-offset-at : goal.returns-then-offset-at
unfolding tiled
returns-then-offset-at c =
    let l = c.loop-i in
    sym (and-off _ (belows.one-fails _ _ l.i (omega (arith, c.loop-i-test.true, c.count-n.ensures)) (ne_eqb _ _ (λ e. c.if-offset-at.true (c.offset.ensures.0 ∙ e ∙ sym l.invariant.0)))))

pub overflow_add-at-in-loop-i : goal.overflow_add-at-in-loop-i
overflow_add-at-in-loop-i c =
    omega (arith, c.loop-i-test.true, c.loop-i.invariant.1, c.length-at.ensures.1, c.count-n.ensures, c.args.self.now.few)

pub loop-i-preserved : goal.loop-i-preserved
loop-i-preserved c =
    let l = c.loop-i in
    let f = c.args.self.now.file.now in (
      omega (arith, l.invariant.0, c.length-at.ensures.0, start-on f l.i),
      omega (arith, l.invariant.1, c.length-at.ensures.1),
      belows.up (λ k. eqb (offset_at f k) (start_of f k)) l.i (belows.one_more _ l.i l.invariant.2 (eq-eqb _ _ (sym c.offset.ensures.0 ∙ c.if-offset-at.false ∙ l.invariant.0))),
    )

pub returns : goal.returns
unfolding tiled
returns c =
    let l = c.loop-i in
    let f = c.args.self.now.file.now in
    let x : l.i ≡ entries f = omega (arith, c.loop-i-test.false, c.count-n.ensures) in
    ap (λ (m : ℕ). eqb m (length f)) (l.invariant.0 ∙ ap (start_of f) x)
    ∙ sym (and-on (belows.done _ l.i _ (omega (arith, x)) (omega (arith, x)) l.invariant.2))
