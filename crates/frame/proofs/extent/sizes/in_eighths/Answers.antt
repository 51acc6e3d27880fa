-- `frame::extent::sizes::in_eighths` meets its contract.
use mathlib.Core.Path.{refl}
use Rattle.frame.specs.extent.Sizes.{eighths}
use Rattle.frame.proofs.extent.sizes.in_eighths.Goals as goal

pub returns : goal.returns
unfolding eighths
returns c = refl
