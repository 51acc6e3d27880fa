-- `frame::extent::sizes::stride_of` meets its contract.
use mathlib.Core.Path.{refl}
use Rattle.frame.specs.extent.Sizes.{stride_of}
use Rattle.frame.proofs.extent.sizes.stride_of.Goals as goal

pub returns : goal.returns
unfolding stride_of
returns c = refl
