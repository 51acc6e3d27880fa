-- `search::lent_bytes::whole::put_stack` meets its contract.
use Rattle.stack.specs.Code.Numbers.{found_at}
use Rattle.stack.proofs.Adds.{in_use}
use Rattle.search.proofs.lent_bytes.Laid.{pairs-laid, singles-laid}
use Rattle.search.proofs.lent_bytes.whole.put_stack.Goals as goal

pub returns-then-not-compound : goal.returns-then-not-compound
returns-then-not-compound c =
    let s = c in
    let l = s.args.s.now in
    singles-laid s.args.r (found_at l) s.requires.2 s.args.compound _ c.put_candidates.ensures (c.if-not-compound.true) (in_use l s.requires.1) c.count_in.ensures c.put_fills.ensures

pub returns-else-not-compound : goal.returns-else-not-compound
returns-else-not-compound c =
    let s = c in
    pairs-laid s.args.r (found_at s.args.s.now) s.requires.2 s.args.compound _ c.put_candidates.ensures (c.if-not-compound.false)
