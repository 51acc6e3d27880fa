-- `stack::add::push` meets its contract.
use Rattle.std.proofs.Common.{ap, sym, ◌∙◌, add-one}
use Rattle.stack.specs.Code.Found.{Found, view, appended}
use Rattle.stack.proofs.Adds.{pushes}
use Rattle.stack.proofs.add.push.Goals as goal

pub returns : goal.returns
unfolding appended
returns c =
    let t = c.lay.ensures in
    (t.0, ap (λ (f : Found). f.count) t.1 ∙ sym (add-one _), rw (← c.pair_bits.ensures.back) (ap view t.1 ∙ pushes c.args.s.now _ c.requires.1))
