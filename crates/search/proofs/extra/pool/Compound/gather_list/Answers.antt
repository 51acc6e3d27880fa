-- `search::extra::pool::Compound::gather_list` meets its contract.
use mathlib.Core.Path.{◌≡◌, ◌∙◌}
use Rattle.ground.proofs.Bits.{int_eq-is}
use Rattle.search.specs.Code.Pool.{pools_of}
use Rattle.search.specs.extra.Pool.{own_of_second, gathered}
use Rattle.search.proofs.extra.pool.Compound.gather_list.Goals.{then-not-is_first, else-not-is_first}
use Rattle.search.proofs.extra.pool.Compound.gather_list.Goals as goal

pub returns : goal.returns
unfolding pools_of gathered
returns c =
    let a = c.args in
    let second : c.if-not-is_first.is_second ≡ own_of_second c.eq-is_first.result a.l a.self.refs.second =
    elim c.if-not-is_first.branch [
      | then-not-is_first w ↦ rw w.if-not-is_first.true (w.is_second-is ∙ w.eq-is_second.ensures ∙ int_eq-is a.l.reference.0 a.self.refs.second.0)
      | else-not-is_first w ↦ rw w.if-not-is_first.false (rw w.if-not-is_first.false at w.is_second-is)
    ]
    in
    rw (c.put_in.ensures, c.put_in-2.ensures, second, (c.eq-is_first.ensures ∙ int_eq-is a.l.reference.0 a.self.refs.first.0), c.turn.ensures, c.turn-2.ensures)
