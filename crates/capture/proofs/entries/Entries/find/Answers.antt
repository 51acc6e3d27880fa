-- `capture::entries::Entries::find` meets its contract.
use Rattle.std.proofs.Common.{rules, ◌≡◌}
use borrow.Author.Tests.{tests}
use Rattle.std.proofs.lemmas.Iterator.{first_from_Range}
use Rattle.capture.specs.File.{kind_at}
use Rattle.capture.proofs.Files.{found_by}
use Rattle.capture.proofs.entries.Entries.find.Goals as goal

pub returns : goal.returns
returns c =
    let f = c.args.self.now.file.now in
    found_by f c.args.kind _ c.count.ensures
    (first_from_Range _ _ _ _ (λ i. kind_at f i ≡ c.args.kind) (λ i. kind_at f i ≡ c.args.kind → ⊥) c.find.ensures.ran (λ x q k. search (rules, tests)) (λ x q k. search (rules, tests)))
