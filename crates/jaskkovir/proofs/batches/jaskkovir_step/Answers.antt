-- `jaskkovir::batches::jaskkovir_step` meets its contract.
use mathlib.Core.Path.{sym, ◌∙◌}
use lib.ListN.{length}
use native.Mathlib.Omega.{arith}
use Rattle.motion.specs.loading.Fields.{lent}
use Rattle.jaskkovir.specs.Batched.{handed_in, stepped_number, stepped_proj, stepped_saved, stepped_jobs}
use Rattle.jaskkovir.proofs.LentJobs.{lacking, unnamed, stepped}
use Rattle.jaskkovir.proofs.batches.jaskkovir_step.Goals as goal

pub returns-then-load_lacks : goal.returns-then-load_lacks
unfolding stepped_number stepped_jobs stepped_proj stepped_saved
returns-then-load_lacks c = let a = c.args in let it = lacking (handed_in a.frame.now a.present.now (lent a.f0.now a.f1.now a.f2.now a.f3.now a.f4.now a.f5.now a.f6.now) a.records.now (length a.proj.now) (length a.saved.now)) a.jobs.now a.k a.proj.now a.saved.now _ (sym c.load_lacks.ensures.value ∙ c.if-load_lacks.true) in record { value = it.0; jobs_after = it.1.0; proj_after = it.1.1.0; saved_after = it.1.1.1 }

pub returns-then-not-is_named : goal.returns-then-not-is_named
unfolding stepped_number stepped_jobs stepped_proj stepped_saved
returns-then-not-is_named c = let a = c.args in let it = unnamed (handed_in a.frame.now a.present.now (lent a.f0.now a.f1.now a.f2.now a.f3.now a.f4.now a.f5.now a.f6.now) a.records.now (length a.proj.now) (length a.saved.now)) a.jobs.now a.k a.proj.now a.saved.now _ (sym c.load_lacks.ensures.value ∙ c.if-load_lacks.false) (sym c.is_named.ensures ∙ c.if-not-is_named.true) in record { value = it.0; jobs_after = it.1.0; proj_after = it.1.1.0; saved_after = it.1.1.1 }

pub returns : goal.returns
unfolding stepped_number stepped_jobs stepped_proj stepped_saved
returns c =
    let a = c.args in
    let r = c.step_row-s.ensures in
    rw (← c.inputs_in-inputs.ensures (length a.proj.now) (length a.saved.now))
    (let it = (stepped _ a.jobs.now a.k a.proj.now a.saved.now _ (sym c.load_lacks.ensures.value ∙ c.if-load_lacks.false)
    (sym c.is_named.ensures ∙ c.if-not-is_named.false) c.job_in-job.ensures r.value c.number_of-number.ensures c.write_down.ensures r.proj_after r.saved_after) in record { value = it.0; jobs_after = it.1.0; proj_after = it.1.1.0; saved_after = it.1.1.1 })
