-- `rows::splats::splat::write_copies` meets its contract.
use mathlib.Core.Path.{◌≡◌, sym, ap, ◌∙◌}
use native.Mathlib.Omega.{arith}
use Prim.Native.Nat.{ℕ, ◌+◌, ◌-◌, ◌*◌}
use Rattle.ground.specs.Put.{put, copies}
use Rattle.ground.proofs.Puts.{copies-on, copies-done}
use Rattle.cells.specs.Block.{block_bytes}
use Rattle.rows.proofs.splats.splat.write_copies.Goals as goal

pub loop-i-preserved : goal.loop-i-preserved
loop-i-preserved c =
    let l = c.loop-i in
    let left : ℕ = c.args.at + c.args.w - l.i in
    let bs = block_bytes c.args.block in
    let less : c.args.at + c.args.w - (l.i + 1) ≡ left - 1 = omega arith in
    ap (λ (n : ℕ). put c.write.new.s (12 * (l.i + 1)) (copies n bs)) less
    ∙ copies-on l.records bs (12 * l.i) (12 * (l.i + 1)) left (omega arith) (omega (arith, c.loop-i-test.true)) c.write.ensures
    ∙ l.invariant

pub returns : goal.returns
returns c = sym (copies-done _ (block_bytes c.args.block) _ (c.args.at + c.args.w - c.loop-i.i) (omega (arith, c.loop-i-test.false))) ∙ c.loop-i.invariant
