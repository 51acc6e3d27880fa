-- `capture::entries::is_whole` meets its contract.
use Rattle.std.proofs.Common.{arith}
use Rattle.capture.specs.File.{whole_body, is_field}
use Rattle.capture.proofs.entries.is_whole.Goals as goal

pub returns-in-1 : goal.returns-in-1
unfolding whole_body
returns-in-1 c = rw c.in-1.is

pub returns-in-2 : goal.returns-in-2
unfolding whole_body
returns-in-2 c = rw c.in-2.is

pub returns-in-4 : goal.returns-in-4
unfolding whole_body
returns-in-4 c = rw c.in-4.is

pub returns-in-16-to-22 : goal.returns-in-16-to-22
unfolding whole_body is_field
returns-in-16-to-22 c = grind arith

pub returns-in_default : goal.returns-in_default
unfolding whole_body is_field
returns-in_default c = grind arith

pub returns-in_default-2 : goal.returns-in_default-2
unfolding whole_body is_field
returns-in_default-2 c = grind arith
