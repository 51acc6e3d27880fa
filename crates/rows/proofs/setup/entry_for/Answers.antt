-- `rows::setup::entry_for` meets its contract.
use mathlib.Core.Path.{sym}
use native.Mathlib.Omega.{arith}
use Rattle.frame.proofs.extent.Sizing.{fits, stride-small}
use Rattle.rows.specs.Setup.{table_for}
use Rattle.rows.proofs.Tabled.{entry}
use Rattle.rows.proofs.Parts.{rows_fit}
use Rattle.rows.proofs.setup.entry_for.Goals as goal

pub doubled-requires : goal.doubled-requires
doubled-requires c = stride-small c.args.s c.requires.0

pub entry_at-requires : goal.entry_at-requires
entry_at-requires c =
    let s = c in
    rw c.doubled.ensures
    ((fits s.args.s s.requires.0).superblock, omega (arith, c.part_start.ensures, rows_fit s.args.s s.args.tile s.args.pass s.requires.0 s.requires.1))

pub returns : goal.returns
unfolding table_for
returns c =
    let s = c in
    rw (c.entry_at.ensures, c.part_start.ensures, c.doubled.ensures) (sym (entry _ _ _ _ _ s.requires.2))
