-- `search::lent_bytes::store::put_candidates` meets its contract.
use mathlib.Core.Path.{refl}
use native.Mathlib.Omega.{arith}
use Rattle.ground.proofs.Spans.{start}
use Rattle.stack.specs.Code.Found.{live}
use Rattle.stack.specs.Code.Numbers.{found_at}
use borrow.Author.Rules.{rules}
use Rattle.search.proofs.lent_bytes.Stored.{candidate_of, one_more, all_laid}
use Rattle.search.proofs.lent_bytes.store.put_candidates.Goals as goal

pub loop-i-init : goal.loop-i-init
loop-i-init c = let a = c.args in (refl, start (candidate_of a.compound (live (found_at a.s.now))) 0 _)

pub loop-i-preserved : goal.loop-i-preserved
loop-i-preserved c =
    let a = c.args in
    let l = c.loop-i in
    (search rules, one_more a.compound a.s.now c.requires.1 l.i _ l.invariant.1 (omega (arith, c.count_in-i-end.ensures)) c.candidate_in.ensures c.put_candidate.ensures)

pub returns : goal.returns
returns c =
    let a = c.args in
    let l = c.loop-i in
    all_laid a.compound a.s.now c.requires.1 l.i _ l.invariant.1 (omega (arith, c.count_in-i-end.ensures))
