-- `motion::loading::step::load_ref` meets its contract.
use Rattle.ground.specs.Script.{run}
use mathlib.Core.List.{List}
use Rattle.motion.proofs.loading.Steps.{sound}
use Rattle.motion.specs.landing.Row.{source_at, sources_read, row_script}
use Rattle.motion.specs.loading.Fields.{cells_of}
use Prim.Native.Nat.{ℕ, ◌*◌}
use mathlib.Core.Path.{ap, ◌∙◌}
use Rattle.motion.proofs.loading.step.load_ref.Goals as goal

pub load_row-requires-clause-sound : goal.load_row-requires-clause-sound
unfolding cells_of
load_row-requires-clause-sound c =
    let a = c.args in
    sound _ a.w (ap (λ (l : List ℕ). sources_read (source_at l (a.y * a.w.stride.0)) a.w) c.field.ensures ∙ c.requires.w_value)

pub returns : goal.returns
unfolding cells_of
returns c =
    let a = c.args in
    c.load_row.ensures
    ∙ ap (λ (l : List ℕ). run (row_script (source_at l (a.y * a.w.stride.0)) a.w a.m a.y) a.proj.now) c.field.ensures
