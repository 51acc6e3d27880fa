-- `capture::entries::Entries::start` meets its contract.
use mathlib.Core.Path.{◌≡◌}
use Prim.Native.Nat.{◌+◌, ◌*◌, ◌≤◌}
use Rattle.capture.specs.File.{start_of}
use Rattle.capture.proofs.entries.Entries.start.Given as goal

abbrev pub invariant-loop-k : goal.invariant-loop-k
invariant-loop-k l = (l.at ≡ start_of l.self.file.now l.k) × (l.at ≤ 289 + 4294967296 * l.k)
