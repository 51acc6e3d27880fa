-- `capture::player::open::made_frame` meets its contract.
use mathlib.Core.Path.{refl}
use lib.ListN.{replicate}
use Rattle.capture.proofs.player.Opens.{made}
use borrow.Author.Rules.{rules}
use Rattle.capture.proofs.player.open.made_frame.Goals as goal

pub put_frame-requires : goal.put_frame-requires
put_frame-requires c = (search rules, c.requires, refl, refl)

pub returns : goal.returns
returns c = made _ _ (replicate 109 0) c.requires (search rules) c.put_frame.ensures c.frame_at.ensures
