-- These definitions follow the code: what a search's struct and numbers stand for, and what its front has shown once it is passed.
use Rattle.std.specs.Prelude.{ℕ, ◌≤◌, ◌≡◌, true, eqb}
use Rattle.ground.specs.Pick.{pick}
use Rattle.frame.specs.declared.record.Frame.{Frame}
use Rattle.frame.specs.Record.{well_frame}
use Rattle.rows.specs.Setup.{Tile}
use Rattle.stack.specs.Code.Found.{Found, live}
use Rattle.search.specs.declared.front.ask.Ask.{Ask}
use Rattle.search.specs.declared.find.Findings.{Findings}
use Rattle.search.specs.front.Ask.{askable}
use Rattle.search.specs.Find.{SearchOutcome, refused, got}

-- on a refusal nothing is said of the rest
unfoldable pub finding : Findings → Found → SearchOutcome
finding r s = pick (eqb r.answer 0) (got (record { context = r.context; cands = live s; fill = r.fill })) (refused r.answer)

-- What the front has shown once it is passed.
pub record Past (f : Frame) (t : Tile) (a : Ask) (nframe : ℕ) : Type 0 where
  pub frame : 109 ≤ nframe
  pub well : well_frame f ≡ true
  pub asked : askable f.sizes t.col t.row f.use_ref_frame_mvs a ≡ true
