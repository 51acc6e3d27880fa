-- `jobs::work::row::do_work` meets its contract.
use Rattle.jobs.specs.Inputs.{used_sources}
use native.Mathlib.Omega.{arith}
use mathlib.Core.Path.{sym, ◌∙◌}
use Rattle.jobs.proofs.job.Fronts.{count-load}
use Rattle.jobs.proofs.work.Works.{save-under, save-low, load-reads, save-reads, load-lays, save-lays}
use Rattle.jobs.proofs.work.row.do_work.Goals as goal

pub do_load-requires : goal.do_load-requires
do_load-requires c =
    let s = c in
    let p = s.requires in
    let e = sym (c.if-is_load.ensures) in
    record { loads = p.able.loads e; a_in_bounds = p.room.0.proj e; k_bound = omega (arith, p.room.1, count-load s.args.inputs.now.frame s.args.job e); k_value = load-reads _ _ _ _ _ e ∙ p.k_value }

pub returns-then-is_load : goal.returns-then-is_load
returns-then-is_load c =
    let s = c in
    let it = load-lays s.args.inputs.now.frame (used_sources s.args.inputs.now) s.args.inputs.now.recs.now s.args.job s.args.k s.args.proj.now s.args.saved.now (sym (c.if-is_load.ensures)) c.do_load.ensures in record { proj_after = it.0; saved_after = it.1 }

pub overflow_add-area : goal.overflow_add-area
overflow_add-area c = let s = c in let e = sym (c.if-is_load.ensures) in omega (arith, save-low s.args.inputs.now.frame s.args.job s.args.k _ e (s.requires.able.saves e) s.requires.room.1)

pub do_save-requires : goal.do_save-requires
do_save-requires c =
    let s = c in
    let p = s.requires in
    let e = sym (c.if-is_load.ensures) in
    record { ready = (p.able.saves e, p.room.0.saved e, save-under s.args.inputs.now.frame s.args.job s.args.k e p.room.1); y_value = save-reads s.args.inputs.now.frame (used_sources s.args.inputs.now) s.args.inputs.now.recs.now s.args.job s.args.k e ∙ p.k_value }

pub returns-else-is_load : goal.returns-else-is_load
returns-else-is_load c =
    let s = c in
    let it = save-lays s.args.inputs.now.frame (used_sources s.args.inputs.now) s.args.inputs.now.recs.now s.args.job s.args.k s.args.proj.now s.args.saved.now (sym (c.if-is_load.ensures)) c.do_save.ensures in record { proj_after = it.0; saved_after = it.1 }
