-- `ground::read::u32_at` meets its contract.
use Rattle.ground.proofs.Littles.{four_is}
use Rattle.ground.proofs.read.u32_at.Goals as goal

pub returns : goal.returns
returns c = four_is c.word_at.result _ _ _ _ c.word_at.type_inv c.word_at.ensures
