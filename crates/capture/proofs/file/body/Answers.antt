-- `capture::file::body` meets its contract.
use mathlib.Core.Path.{ap}
use Rattle.capture.specs.File.{body_at}
use Rattle.capture.proofs.Files.{scan_broken}
use Rattle.capture.proofs.file.body.Goals as goal

pub returns-in-Err : goal.returns-in-Err
returns-in-Err c = let f = c.args.file.now in ap (body_at f) (scan_broken f c.args.kind c.in-Err.ensures)
