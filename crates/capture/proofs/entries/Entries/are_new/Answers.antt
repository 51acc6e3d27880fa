-- `capture::entries::Entries::are_new` meets its contract.
use Rattle.std.proofs.Common.{rules}
use mathlib.Core.Path.{ap, ◌∙◌}
use Prim.Native.Nat.{ℕ}
use Rattle.ground.specs.Below.{all_below}
use Rattle.layout.proofs.Ranges.{range-all}
use Rattle.capture.specs.File.{is_new, once}
use Rattle.capture.proofs.entries.Entries.are_new.Goals as goal

pub returns : goal.returns
unfolding once
returns c =
    let f = c.args.self.now.file.now in
    range-all _ (is_new f) c.all.ensures.ran (λ x q k. search rules) (λ x q k. search rules)
    ∙ ap (λ (n : ℕ). all_below n (is_new f)) c.count.ensures
