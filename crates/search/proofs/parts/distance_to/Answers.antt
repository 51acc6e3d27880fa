-- `search::parts::distance_to` meets its contract.
use mathlib.Core.Path.{sym, ◌∙◌}
use mir.Syntax.{w16}
use Rattle.ground.proofs.Bits.{same}
use Rattle.layout.specs.FrameBytes.{frame_at}
use Rattle.cells.specs.Cell.{is_ref}
use Rattle.search.specs.Parts.{distance_to}
use Rattle.search.proofs.parts.distance_to.Goals as goal

pub place-requires : goal.place-requires
unfolding is_ref
place-requires c = sym c.is_ref.ensures ∙ c.if-is_ref.true

pub returns-then-is_ref : goal.returns-then-is_ref
unfolding distance_to frame_at
returns-then-is_ref c = rw (← c.is_ref.ensures, c.if-is_ref.true, ← c.place.ensures.0, ← c.hint_in-hint.ensures) (same w16 c.hint_in-hint.result.pocdiff c.struct_told-1.given.1.1.0.1)

pub returns : goal.returns
unfolding distance_to
returns c = rw (← c.is_ref.ensures, c.if-is_ref.false)
