-- A neighbour's lists in the extra search (7.10.2.13), and what a single search makes of them.
use Rattle.std.specs.Prelude.{ℕ, ◌-◌, List, [], ◌∷◌, eqb, neg_ℤ, nat_abs, get_or}
use Rattle.ground.specs.Pick.{pick}
use Rattle.vector.specs.declared.mv.Mv.{Mv}
use Rattle.vector.specs.Vector.{zero, both}
use Rattle.cells.specs.declared.cell.Ref.{Ref}
use Rattle.cells.specs.declared.block.Block.{Block}
use Rattle.cells.specs.Cell.{is_ref}
use Rattle.stack.specs.Stack.{State, extended}
use Rattle.search.specs.declared.extra.lists.Listed.{Listed}

-- the sign bias of a reference, out of the seven
abbrev pub bias_of : List ℕ → Ref → ℕ
bias_of biases r = get_or biases (nat_abs r.0 - 1) 0

-- a list's vector for the reference r: negated where the sign biases differ
unfoldable pub turned : List ℕ → Ref → Listed → Mv
turned biases r l = pick (eqb (bias_of biases r) (bias_of biases l.reference)) l.mv (both neg_ℤ l.mv)

-- The lists that count. The source's walk stops at a first reference of INTRA; the standard would look at the second all the same.
unfoldable pub lists_of : Block → List Listed
lists_of k =
    pick (is_ref k.refs.first)
    (record { reference = k.refs.first; mv = k.mv.first }
    ∷ pick (is_ref k.refs.second) (record { reference = k.refs.second; mv = k.mv.second } ∷ []) [])
    []

-- A single search appends what is new of them, the vectors of the neighbour's own and never a global one.
unfoldable pub list_of : List ℕ → Ref → Listed → State → State
list_of biases r l s = extended s (record { first = turned biases r l; second = zero })

unfoldable pub all_of : List ℕ → Ref → List Listed → State → State
all_of biases r [] s = s
all_of biases r (l ∷ ls) s = all_of biases r ls (list_of biases r l s)

unfoldable pub extended_by : List ℕ → Ref → Block → State → State
extended_by biases r k s = all_of biases r (lists_of k) s
