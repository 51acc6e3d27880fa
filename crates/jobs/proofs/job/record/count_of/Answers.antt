-- `jobs::job::record::count_of` meets its contract.
use mathlib.Core.Path.{sym, ap, ap₂, ◌∙◌}
use Prim.Native.Nat.{◌-◌}
use Rattle.frame.proofs.Records.{frame-sizes}
use Rattle.motion.specs.declared.saving.area.Strip.{Strip}
use Rattle.motion.specs.saving.Area.{strip_of}
use Rattle.motion.specs.loading.Load.{steps_of}
use Rattle.motion.proofs.loading.Usings.{able-fields}
use Rattle.jobs.proofs.job.Fronts.{window-low, count-load, count-save}
use Rattle.jobs.proofs.job.record.count_of.Goals as goal

pub window_in-requires : goal.window_in-requires
window_in-requires c = let p = c.requires in (frame-sizes _ p.0, p.1)

pub steps_of-requires : goal.steps_of-requires
steps_of-requires c = let p = c.requires in ((able-fields _ c.uses_of.ensures p.0).0, window-low _ _ c.window_in.ensures p.0 p.1)

pub returns-then-is_load : goal.returns-then-is_load
returns-then-is_load c = c.steps_of.ensures ∙ ap₂ steps_of c.window_in.ensures c.uses_of.ensures ∙ sym (count-load _ _ (sym (c.if-is_load.ensures)))

pub returns : goal.returns
unfolding strip_of
returns c = c.saturating_sub.ensures ∙ ap (λ (w : Strip). w.bottom.0 - w.top.0) c.strip_in-strip.ensures ∙ sym (count-save _ _ (sym (c.if-is_load.ensures)))
