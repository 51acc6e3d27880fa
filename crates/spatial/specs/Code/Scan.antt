-- These definitions follow the code: what a scan's struct and numbers stand for, and what inner routines require of their callers.
use Rattle.std.specs.Prelude.{ℕ, ◌^◌, ◌≤◌, ◌<◌, Bool, eqb}
use Rattle.ground.specs.Pick.{pick}
use Rattle.stack.specs.Code.Found.{Found, view}
use Rattle.spatial.specs.declared.neighbours.read.Neighbour.{Neighbour}
use Rattle.spatial.specs.declared.neighbours.read.Line.{Line}
use Rattle.spatial.specs.declared.scan.Span.{Span}
use Rattle.spatial.specs.declared.scan.Scan.{Scan}
use Rattle.spatial.specs.neighbours.Neighbour.{along_of, across_of}
use Rattle.spatial.specs.Scan.{ScanOutcome, refused, found}

-- on a refusal nothing is said of the rest
unfoldable pub scanned : Scan → Found → ScanOutcome
scanned r s = pick (eqb r.answer 0) (found (view s) r.reach) (refused r.answer)

-- What a caller sees to: the line's places are no large numbers,
pub record Room (l : Line) : Type 0 where
  pub entry : l.entry < 2 ^ 32
  pub col : l.col.0 < 2 ^ 32

-- and the stack has room for the weights
pub record Fair (heft : ℕ) (p : Span) : Type 0 where
  pub light : heft < 2 ^ 30
  pub size : p.size.0 ≤ 32
  pub span : p.limit.0 ≤ 16
  pub rows : p.rows ≤ 3
  pub one : 1 ≤ p.step.0
  pub few : p.step.0 ≤ 4

-- a neighbour's sides are 1 to 32 units
pub record Sized (down : Bool) (k : Neighbour) : Type 0 where
  pub some : 1 ≤ along_of down k
  pub most : along_of down k ≤ 32
  pub wide : across_of down k ≤ 32
