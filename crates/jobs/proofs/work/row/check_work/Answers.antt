-- `jobs::work::row::check_work` meets its contract.
use native.Mathlib.Omega.{arith}
use mathlib.Core.Path.{sym, ◌∙◌}
use Rattle.jobs.proofs.job.Fronts.{count-load}
use Rattle.jobs.proofs.work.Works.{save-low, load-reads, save-reads}
use Rattle.jobs.proofs.work.row.check_work.Goals as goal

pub check_load-requires : goal.check_load-requires
check_load-requires c = let s = c in let e = sym (c.if-is_load.ensures) in record { loads = s.requires.able.loads e; k_bound = omega (arith, s.requires.k_bound, count-load s.args.inputs.now.frame s.args.job e) }

pub returns-then-is_load : goal.returns-then-is_load
returns-then-is_load c = c.check_load.ensures ∙ load-reads _ _ _ _ _ (sym (c.if-is_load.ensures))

pub overflow_add-area : goal.overflow_add-area
overflow_add-area c = let s = c in let e = sym (c.if-is_load.ensures) in omega (arith, save-low s.args.inputs.now.frame s.args.job s.args.k _ e (s.requires.able.saves e) s.requires.k_bound)

pub check_save-requires : goal.check_save-requires
check_save-requires c = let s = c in s.requires.able.saves (sym (c.if-is_load.ensures))

pub returns-else-is_load : goal.returns-else-is_load
returns-else-is_load c = c.check_save.ensures ∙ save-reads _ _ _ _ _ (sym (c.if-is_load.ensures))
