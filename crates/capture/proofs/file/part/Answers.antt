-- `capture::file::part` meets its contract.
use mathlib.Core.Path.{refl, ap, ◌∙◌}
use mathlib.Core.List.{List}
use Prim.Native.Nat.{ℕ}
use denote.Ref.{Bor}
use Rattle.capture.proofs.Files.{part_got}
use Rattle.capture.proofs.file.part.Goals as goal

pub returns : goal.returns
returns c = ap (λ (b : Bor (List ℕ)). b.now) c.unwrap_or.ensures ∙ part_got _ _ _ c.get.result _ refl c.get.ensures.lookup
