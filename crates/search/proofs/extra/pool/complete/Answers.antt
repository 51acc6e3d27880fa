-- `search::extra::pool::complete` meets its contract.
use mathlib.Core.Path.{sym, ap, ◌∙◌}
use native.Mathlib.Omega.{arith}
use Rattle.stack.specs.Stack.{State, pushed}
use Rattle.stack.specs.Code.Found.{view}
use Rattle.stack.proofs.Adds.{how-many}
use Rattle.search.proofs.extra.Helds.{completes-none, completes-first, completes-other}
use Rattle.search.proofs.extra.pool.complete.Goals as goal

pub returns-then-count_in-eq0 : goal.returns-then-count_in-eq0
returns-then-count_in-eq0 c =
    let a = c in
    let t = c.push.ensures in
    let u = c.push-then-count_in-eq0.ensures in
    let n = how-many a.args.s.now a.requires.0 in
    (u.0, omega arith, u.2 ∙ ap (λ (v : State). pushed v a.args.q) t.2 ∙ completes-none a.args.p a.args.q _ (omega arith))

pub returns-then-is_first : goal.returns-then-is_first
unfolding view
returns-then-is_first c =
    let a = c in
    let t = c.push-then-is_first.ensures in
    let n = how-many a.args.s.now a.requires.0 in
    (t.0, omega arith, t.2 ∙ completes-first a.args.p a.args.q _ (omega arith) (sym c.is_first.ensures ∙ c.if-is_first.true))

pub returns-else-is_first : goal.returns-else-is_first
unfolding view
returns-else-is_first c =
    let a = c in
    let t = c.push-else-is_first.ensures in
    let n = how-many a.args.s.now a.requires.0 in
    (t.0, omega arith, t.2 ∙ completes-other a.args.p a.args.q _ (omega arith) (sym c.is_first.ensures ∙ c.if-is_first.false))
