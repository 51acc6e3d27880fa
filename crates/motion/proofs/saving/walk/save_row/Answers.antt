-- `motion::saving::walk::save_row` meets its contract.
use Rattle.motion.proofs.saving.Walks.{place-walk, place-absent, place_at_lem}
use Rattle.motion.proofs.saving.walk.save_row.Goals as goal

pub write_walk-requires-clause-left_value : goal.write_walk-requires-clause-left_value
write_walk-requires-clause-left_value c = place-walk _ _ _ _ _ c.in-Some.is c.requires.at_value

pub returns-in-Some : goal.returns-in-Some
returns-in-Some c = let a = c.args in place_at_lem _ a.refs a.w _ _ _ _ c.in-Some.is c.write_walk.ensures

pub returns-in_default : goal.returns-in_default
returns-in_default c = let a = c.args in place-absent _ a.refs a.w _ _ _ c.in_default.is
