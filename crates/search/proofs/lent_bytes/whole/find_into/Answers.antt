-- `search::lent_bytes::whole::find_into` meets its contract.
use Rattle.stack.specs.Code.Numbers.{found_at}
use Rattle.cells.specs.Cell.{is_ref}
use Rattle.search.proofs.lent_bytes.Laid.{lends_back, lays}
use Rattle.search.proofs.lent_bytes.whole.find_into.Goals as goal

pub returns-then-r-ne0 : goal.returns-then-r-ne0
returns-then-r-ne0 c =
    let f = c.find-r in
    let z = lends_back f.result (found_at f.new.s) f.ensures.s_after (is_ref c.ask_at-a.result.refs.second) c.args.stack.now c.args.out.now c.if-r-ne0.true in
    rw (← c.ask_at-a.ensures) (record { value = z.0; stack_after = z.1.0; out_after = z.1.1 })

pub returns : goal.returns
returns c =
    let f = c.find-r in
    let z = lays f.result (found_at f.new.s) f.ensures.s_after (is_ref c.ask_at-a.result.refs.second) c.args.stack.now c.args.out.now c.if-r-ne0.false c.is_ref.ensures c.put_stack.ensures c.put_found.ensures in
    rw (← c.ask_at-a.ensures) (record { value = z.0; stack_after = z.1.0; out_after = z.1.1 })
