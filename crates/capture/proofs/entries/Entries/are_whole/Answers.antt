-- `capture::entries::Entries::are_whole` meets its contract.
use Rattle.std.proofs.Common.{rules}
use mathlib.Core.Bool.{Bool}
use mathlib.Core.Path.{ap, ◌∙◌}
use Prim.Native.Nat.{ℕ}
use Rattle.ground.specs.Below.{all_below}
use Rattle.layout.proofs.Ranges.{range-all}
use Rattle.capture.specs.File.{kind_at, length_at, whole_body, kinds}
use Rattle.capture.proofs.entries.Entries.are_whole.Goals as goal

pub returns : goal.returns
unfolding kinds
returns c =
    let f = c.args.self.now.file.now in
    let t : ℕ → Bool = λ i. whole_body (kind_at f i) (length_at f i) in
    range-all _ t c.all.ensures.ran (λ x q k. search rules) (λ x q k. search rules)
    ∙ ap (λ (n : ℕ). all_below n t) c.count.ensures
