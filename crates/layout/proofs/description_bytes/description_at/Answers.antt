-- `layout::description_bytes::description_at` meets its contract.
use mathlib.Core.Path.{refl}
use Rattle.layout.specs.DescriptionBytes.{described, description_at}
use Rattle.layout.proofs.Starts.{behind}
use Rattle.layout.proofs.description_bytes.description_at.Goals as goal

pub returns : goal.returns
unfolding description_at described
returns c = rw (c.two_at.ensures, c.two_at-2.ensures, c.from.ensures, c.from-2.ensures, c.first_bytes-hints.ensures, c.first_bytes-hints_by_ref.ensures, c.one_at.ensures, c.one_at-2.ensures, c.one_at-3.ensures, behind _ 7, behind _ 14) refl
