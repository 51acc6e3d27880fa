-- `capture::entries::Entries::start` meets its contract.
use mathlib.Core.Path.{◌≡◌, sym, ap, ◌∙◌}
use Prim.Native.Nat.{ℕ, ◌+◌, ◌*◌}
use native.Mathlib.Omega.{arith}
use Rattle.capture.specs.File.{start_of}
use Rattle.capture.proofs.Files.{start_first, start-on}
use Rattle.capture.proofs.entries.Entries.start.Goals as goal

pub loop-k-init : goal.loop-k-init
loop-k-init c =
    let s = c.args.self.now in
    (ap (λ (n : ℕ). 1 + 9 * n) c.count.ensures ∙ sym (start_first s.file.now), omega (arith, c.count.ensures, s.few))

pub overflow_add-at-in-loop-k : goal.overflow_add-at-in-loop-k
overflow_add-at-in-loop-k c = omega (arith, c.loop-k-test.true, c.loop-k.invariant.1, c.length-at.ensures.1, c.requires, c.args.self.now.few)

pub loop-k-preserved : goal.loop-k-preserved
loop-k-preserved c =
    let l = c.loop-k in
    (omega (arith, l.invariant.0, c.length-at.ensures.0, start-on c.args.self.now.file.now l.k), omega (arith, l.invariant.1, c.length-at.ensures.1))

pub returns : goal.returns
returns c =
    let l = c.loop-k in
    let e : l.k ≡ c.args.i = omega arith in
    l.invariant.0 ∙ ap (start_of c.args.self.now.file.now) e
