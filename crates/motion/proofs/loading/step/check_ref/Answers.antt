-- `motion::loading::step::check_ref` meets its contract.
use lib.ListN.{length}
use mathlib.Core.List.{List}
use Rattle.motion.proofs.loading.Steps.{row-held, length-at}
use Rattle.motion.specs.landing.Row.{source_at, sources_read}
use Rattle.motion.specs.loading.Fields.{all_used, cells_of}
use Prim.Native.Nat.{ℕ, ◌*◌}
use native.Mathlib.Omega.{arith}
use mathlib.Core.Path.{ap, ◌∙◌}
use Rattle.motion.proofs.loading.step.check_ref.Goals as goal

pub check_sources-requires : goal.check_sources-requires
check_sources-requires c =
    let s = c in
    let w = s.requires.0.bounded in
    let k = row-held s.args.w s.args.y w s.requires.1 in
    let e = ap length c.field.ensures in
    let n = length-at (all_used s.args.fields) s.args.i in
    (omega (arith, w.wide, w.narrow), omega (arith, e, n, k, s.requires.0.source, w.frame))

pub returns : goal.returns
unfolding cells_of
returns c =
    let s = c in
    c.check_sources.ensures ∙ ap (λ (l : List ℕ). sources_read (source_at l (s.args.y * s.args.w.stride.0)) s.args.w) c.field.ensures
