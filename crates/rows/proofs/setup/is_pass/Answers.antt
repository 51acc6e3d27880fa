-- `rows::setup::is_pass` meets its contract.
use Rattle.rows.specs.Setup.{is_pass}
use Rattle.std.proofs.Common.{rules}
use Rattle.rows.proofs.setup.is_pass.Goals as goal

pub returns-then-pass-eq1 : goal.returns-then-pass-eq1
unfolding is_pass
returns-then-pass-eq1 c = search rules

pub returns-else-pass-eq1 : goal.returns-else-pass-eq1
unfolding is_pass
returns-else-pass-eq1 c = search rules
