-- `search::extend::biases_of` meets its contract.
use mathlib.Core.Path.{◌≡◌, refl}
use borrow.Author.Rules.{rules}
use Rattle.layout.specs.FrameBytes.{frame_at}
use Rattle.search.specs.Extend.{bias_at, biases_of}
use Rattle.search.proofs.Sevens.{filled}
use Rattle.search.proofs.extend.biases_of.Goals as goal

pub returns : goal.returns
unfolding biases_of
returns c =
    let l = c.args.frame.now in
    filled _ (λ f. f.0.now ≡ l) (bias_at (frame_at l)) (λ f i y q b p k. search rules) refl c.from_fn.ensures.items
