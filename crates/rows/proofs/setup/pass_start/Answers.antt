-- `rows::setup::pass_start` meets its contract.
use native.Mathlib.Omega.{arith}
use Rattle.frame.proofs.extent.Sizing.{fits, blocks-most}
use Rattle.rows.specs.Setup.{pass_start}
use Rattle.std.proofs.Common.{rules}
use Rattle.rows.proofs.setup.pass_start.Goals as goal

pub overflow_mul-result : goal.overflow_mul-result
overflow_mul-result c = let f = fits _ c.requires in let h = blocks-most _ _ c.args.s.n_tile_threads f.limits.width.fits f.limits.rows in record { fits = omega (arith, f.blocks) }

pub returns-then-pass-eq2 : goal.returns-then-pass-eq2
unfolding pass_start
returns-then-pass-eq2 c = search rules

pub returns-else-s-gt1 : goal.returns-else-s-gt1
unfolding pass_start
returns-else-s-gt1 c = search rules
