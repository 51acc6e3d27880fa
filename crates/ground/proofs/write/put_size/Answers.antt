-- `ground::write::put_size` meets its contract.
use native.Mathlib.Numerals.{add-one, add-two, add-three}
use Rattle.ground.specs.Put.{put}
use Rattle.ground.proofs.write.put_size.Goals as goal

pub returns : goal.returns
unfolding put
returns c = rw (c.to_le_bytes.ensures, add-one, add-two, add-three)
