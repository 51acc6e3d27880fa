-- `search::lent_bytes::whole::put_found` meets its contract.
use Rattle.stack.specs.Code.Numbers.{found_at}
use Rattle.stack.proofs.Adds.{in_use}
use Rattle.search.proofs.lent_bytes.Laid.{found-laid}
use Rattle.search.proofs.lent_bytes.whole.put_found.Goals as goal

pub returns : goal.returns
returns c =
    let s = c in
    let l = s.args.s.now in
    found-laid s.args.r (found_at l) s.requires.2 (in_use l s.requires.1) _ c.count_in.ensures
