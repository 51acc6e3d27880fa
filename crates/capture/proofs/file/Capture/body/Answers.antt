-- `capture::file::Capture::body` meets its contract.
use mathlib.Core.Path.{sym, ap, ◌∙◌}
use Rattle.std.specs.Prelude.{Ok}
use Rattle.capture.specs.File.{body_at}
use Rattle.capture.proofs.file.Capture.body.Goals as goal

pub returns-in-Some : goal.returns-in-Some
returns-in-Some c =
    let f = c.args.self.now.entries.file.now in
    c.part.ensures ∙ ap (body_at f) (ap Ok (sym c.in-Some.is) ∙ c.scan.ensures)

pub returns-in-None : goal.returns-in-None
returns-in-None c =
    let f = c.args.self.now.entries.file.now in
    ap (body_at f) (ap Ok (sym c.in-None.is) ∙ c.scan.ensures)
