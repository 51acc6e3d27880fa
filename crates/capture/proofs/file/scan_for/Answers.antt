-- `capture::file::scan_for` meets its contract.
use Rattle.std.proofs.Common.{rules, ◌≡◌, ◌∙◌, Err}
use Rattle.capture.proofs.Files.{scan_broken}
use Rattle.capture.proofs.file.scan_for.Goals as goal

pub returns-in_err-of : goal.returns-in_err-of
returns-in_err-of c = let n : c.from_residual.result ≡ Err (record {}) = search rules in n ∙ scan_broken _ _ c.in_err-of.ensures
