-- `search::candidates::plan::list` meets its contract: the first i records hold the first i candidates.
use native.Mathlib.Omega.{arith}
use Rattle.stack.specs.Code.Found.{live}
use Rattle.stack.specs.Code.Numbers.{found_at}
use Rattle.search.proofs.candidates.Plans.{none-laid, one-laid, all_laid}
use Rattle.search.proofs.candidates.plan.list.Goals as goal

pub loop-i-init : goal.loop-i-init
loop-i-init c =
    (omega (arith, c.count_in-i-end.ensures, c.requires.room), none-laid (live (found_at c.args.s.now)) c.no_candidate-none.ensures)

pub loop-i-preserved : goal.loop-i-preserved
loop-i-preserved c =
    let f = c in
    let l = c.loop-i in
    (omega (arith, c.count_in-i-end.ensures, f.requires.room), one-laid f.args.s.now f.requires l.i l.invariant.1 (omega (arith, c.count_in-i-end.ensures)) c.candidate_in.ensures)

pub returns : goal.returns
returns c =
    let f = c in
    let l = c.loop-i in
    all_laid f.args.s.now f.requires l.i l.invariant.1 (omega (arith, c.count_in-i-end.ensures))
