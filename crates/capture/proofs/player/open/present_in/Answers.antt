-- `capture::player::open::present_in` meets its contract.
use Rattle.std.proofs.Common.{rules}
use Prim.Native.Nat.{◌+◌}
use Rattle.ground.specs.Tab.{tab}
use Rattle.layout.proofs.Ranges.{from-fn}
use Rattle.capture.specs.File.{scan_of}
use Rattle.capture.specs.player.Opened.{flag_of, present_in}
use Rattle.capture.proofs.player.Opens.{flag_found}
use Rattle.capture.proofs.player.open.present_in.Goals as goal

pub returns : goal.returns
unfolding present_in tab
returns c =
    let s = c.args.capture.now in
    let f = s.entries.file.now in
    from-fn _ 0 (λ k. flag_of (scan_of f (16 + k))) 7 c.from_fn.ensures.items (λ j y q k. search (rules, flag_found f (16 + j) s.well))
