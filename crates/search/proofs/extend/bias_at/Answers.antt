-- `search::extend::bias_at` meets its contract.
use mathlib.Core.Path.{ap}
use Rattle.frame.specs.declared.hints.distances.RefHint.{RefHint}
use Rattle.layout.specs.FrameBytes.{frame_at}
use Rattle.search.specs.Extend.{bias_at}
use Rattle.search.proofs.extend.bias_at.Goals as goal

pub returns : goal.returns
unfolding bias_at frame_at
returns c = ap (λ (h : RefHint). h.sign_bias) c.hint_in.ensures
