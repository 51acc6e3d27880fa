-- `capture::entries::Entries::is_new` meets its contract.
use Rattle.std.proofs.Common.{rules}
use mathlib.Core.Bool.{not}
use borrow.Author.Tests.{tests}
use lib.Dec.{eqb}
use Rattle.layout.proofs.Ranges.{range-all}
use Rattle.capture.specs.File.{kind_at, is_new}
use Rattle.capture.proofs.entries.Entries.is_new.Goals as goal

pub returns : goal.returns
unfolding is_new
returns c =
    let f = c.args.self.now.file.now in
    range-all c.args.j (λ i. not (eqb (kind_at f i) (kind_at f c.args.j))) c.all.ensures.ran (λ x q k. search (rules, tests, c.kind-kind.ensures)) (λ x q k. search (rules, tests, c.kind-kind.ensures))
