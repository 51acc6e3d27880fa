-- `jobs::admit::admit` meets its contract.
use mathlib.Core.Path.{sym, ◌∙◌}
use lib.ListN.{length}
use Rattle.ground.proofs.Picks.{pick_true, pick-false}
use Rattle.jobs.proofs.job.Batches.{formed}
use Rattle.jobs.specs.Inputs.{handed_with}
use Rattle.jobs.proofs.Admits.{areas, ill-formed, job-refuses, by-windows}
use Rattle.jobs.proofs.admit.admit.Goals as goal

pub returns-then-not-well_formed : goal.returns-then-not-well_formed
returns-then-not-well_formed c = ill-formed _ _ (sym c.well_formed-2.ensures ∙ c.if-not-well_formed.true)

pub check_jobs-refusal-requires : goal.check_jobs-refusal-requires
check_jobs-refusal-requires c = (formed c.args.batch (sym c.well_formed-2.ensures ∙ c.if-not-well_formed.false)).few

pub returns-then-refusal-ne0 : goal.returns-then-refusal-ne0
returns-then-refusal-ne0 c =
    let s = c.args in
    job-refuses (handed_with s.inputs.now (length s.proj.now) (length s.saved.now)) s.batch (sym c.well_formed-2.ensures ∙ c.if-not-well_formed.false) c.check_jobs-refusal.ensures c.if-refusal-ne0.true

pub are_apart-requires : goal.are_apart-requires
are_apart-requires c =
    let s = c.args in
    areas (handed_with s.inputs.now (length s.proj.now) (length s.saved.now)) s.batch (sym c.well_formed-2.ensures ∙ c.if-not-well_formed.false) c.check_jobs-refusal.ensures c.if-refusal-ne0.false

pub returns-then-are_apart : goal.returns-then-are_apart
returns-then-are_apart c =
    let s = c.args in
    sym (pick_true 11 (sym c.are_apart.ensures ∙ c.if-are_apart.true)) ∙ by-windows (handed_with s.inputs.now (length s.proj.now) (length s.saved.now)) s.batch (sym c.well_formed-2.ensures ∙ c.if-not-well_formed.false) c.check_jobs-refusal.ensures c.if-refusal-ne0.false

pub returns-else-are_apart : goal.returns-else-are_apart
returns-else-are_apart c =
    let s = c.args in
    sym (pick-false 0 (sym c.are_apart.ensures ∙ c.if-are_apart.false)) ∙ by-windows (handed_with s.inputs.now (length s.proj.now) (length s.saved.now)) s.batch (sym c.well_formed-2.ensures ∙ c.if-not-well_formed.false) c.check_jobs-refusal.ensures c.if-refusal-ne0.false
