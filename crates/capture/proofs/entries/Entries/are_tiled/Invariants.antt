-- `capture::entries::Entries::are_tiled` meets its contract.
use mathlib.Core.Bool.{true}
use mathlib.Core.Path.{◌≡◌}
use Prim.Native.Nat.{◌+◌, ◌*◌, ◌≤◌}
use lib.Dec.{eqb}
use Rattle.ground.specs.Below.{all_below}
use Rattle.capture.specs.File.{offset_at, start_of}
use Rattle.capture.proofs.entries.Entries.are_tiled.Given as goal

abbrev pub invariant-loop-i : goal.invariant-loop-i
invariant-loop-i l = (l.at ≡ start_of l.self.file.now l.i) × (l.at ≤ 289 + 4294967296 * l.i) × (all_below l.i (λ k. eqb (offset_at l.self.file.now k) (start_of l.self.file.now k)) ≡ true)
