-- `stack::numbers::count_in` meets its contract.
use mathlib.Core.Path.{refl}
use Rattle.stack.specs.Code.Numbers.{found_at}
use Rattle.stack.proofs.numbers.count_in.Goals as goal

pub returns : goal.returns
unfolding found_at
returns c = refl
