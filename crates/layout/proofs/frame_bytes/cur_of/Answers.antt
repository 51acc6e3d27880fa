-- `layout::frame_bytes::cur_of` meets its contract.
use borrow.Author.Rules.{rules}
use Rattle.layout.specs.FrameBytes.{cur_of, skipped_mark}
use mir.Syntax.{w16}
use mir.Facts.{to_z-of_z}
use borrow.Author.Tests.{eq-eqb, ne_eqb}
use Rattle.ground.proofs.Bits.{bits-eq_z}
use Rattle.layout.proofs.frame_bytes.cur_of.Goals as goal

pub returns-then-z-eq-SKIPPED : goal.returns-then-z-eq-SKIPPED
unfolding cur_of
returns-then-z-eq-SKIPPED c = let e = bits-eq_z {w = w16} {a = c.args.z} {b = skipped_mark} c.ranges.z (search rules) in rw (← e, eq-eqb _ _ c.if-z-eq-SKIPPED.true)

pub returns-else-z-eq-SKIPPED : goal.returns-else-z-eq-SKIPPED
unfolding cur_of
returns-else-z-eq-SKIPPED c = let e = bits-eq_z {w = w16} {a = c.args.z} {b = skipped_mark} c.ranges.z (search rules) in rw (← e, ne_eqb _ _ c.if-z-eq-SKIPPED.false, to_z-of_z c.ranges.z)
