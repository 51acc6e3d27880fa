-- `capture::file::Capture::scan` meets its contract.
use Rattle.std.proofs.Common.{rules}
use mathlib.Core.Path.{◌≡◌, sym, ap, ap₂, ◌∙◌}
use native.Mathlib.Omega.{arith}
use Prim.Native.Nat.{ℕ}
use Rattle.std.specs.Prelude.{None, Some, Ok}
use Rattle.capture.specs.File.{found}
use Rattle.capture.proofs.Files.{scan_found, scan_lacks}
use Rattle.capture.proofs.file.Capture.scan.Goals as goal

pub returns-in_err-i : goal.returns-in_err-i
returns-in_err-i c =
    let s = c.args.self.now in
    let n : c.from_residual.result ≡ None = search rules in
    ap Ok n ∙ scan_lacks s.entries.file.now c.args.kind s.well (ap (found s.entries.file.now) (sym c.from.ensures) ∙ sym c.find.ensures ∙ c.in_err-i.was)

pub start-requires : goal.start-requires
start-requires c =
    let s = c.args.self.now in
    omega (arith, (scan_found s.entries.file.now c.args.kind s.well (ap (found s.entries.file.now) (sym c.from.ensures) ∙ sym c.find.ensures ∙ c.in_ok-i.was)).0)

pub overflow_add-i : goal.overflow_add-i
overflow_add-i c =
    let s = c.args.self.now in
    record { fits = omega (arith, s.entries.few, (scan_found s.entries.file.now c.args.kind s.well (ap (found s.entries.file.now) (sym c.from.ensures) ∙ sym c.find.ensures ∙ c.in_ok-i.was)).0) }

pub start-requires-2 : goal.start-requires-2
start-requires-2 c =
    let s = c.args.self.now in
    omega (arith, (scan_found s.entries.file.now c.args.kind s.well (ap (found s.entries.file.now) (sym c.from.ensures) ∙ sym c.find.ensures ∙ c.in_ok-i.was)).0)

pub returns : goal.returns
returns c =
    let s = c.args.self.now in
    ap₂ (λ (a b : ℕ). Ok (Some (record { start = a; end = b }))) c.start.ensures c.start-2.ensures
    ∙ (scan_found s.entries.file.now c.args.kind s.well (ap (found s.entries.file.now) (sym c.from.ensures) ∙ sym c.find.ensures ∙ c.in_ok-i.was)).1
