-- `frame::hints::distances::ref_hints` meets its contract.
use Rattle.frame.specs.hints.Description.{hint_at}
use Rattle.frame.specs.hints.Distances.{ref_hint_of, ref_hints}
use Rattle.frame.proofs.Alls.{seven-is}
use Prim.Native.Nat.{ℕ}
use Rattle.frame.specs.declared.hints.distances.RefHint.{RefHint}
use Rattle.std.proofs.Common.{rules}
use Rattle.frame.proofs.hints.distances.ref_hints.Goals as goal

pub returns : goal.returns
unfolding ref_hints
returns c = let f : ℕ → RefHint = λ i. ref_hint_of c.args.d (hint_at c.args.d i) in let r = c.from_fn.ensures.items in seven-is f c.from_fn.result r.long (λ k l. let w = r.at k (f 0) l in search rules)
