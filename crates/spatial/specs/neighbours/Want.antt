-- What a neighbour gives to a search: the add reference motion vector process (7.10.2.7) with the search stack (7.10.2.8) and compound search stack (7.10.2.9)
-- processes.
use Rattle.std.specs.Prelude.{◌%◌, Bool, not, eqb, negsuc, Option, None, Some}
use Rattle.ground.specs.Pick.{pick}
use Rattle.ground.specs.Sign.{eq_z}
use Rattle.vector.specs.declared.mv.Mv.{Mv}
use Rattle.vector.specs.Vector.{zero, invalid, eq_mv}
use Rattle.cells.specs.declared.cell.Ref.{Ref}
use Rattle.cells.specs.declared.block.Block.{Block}
use Rattle.cells.specs.Block.{MvPair}
use Rattle.spatial.specs.declared.neighbours.want.Want.{Want}

-- a block with a global mode lends the current block's global vector, where its type is above translation (else it is INVALID here), in place of its own
unfoldable pub lent_of : Bool → Mv → Mv → Mv
lent_of global g own = pick global (pick (eq_mv g invalid) own g) own

-- the block's mode is global, and it is at least 8 x 8: bit 0 of mf
abbrev pub global_mode : Block → Bool
global_mode k = eqb (k.mf % 2) 1

abbrev pub alone : Mv → MvPair
alone v = record { first = v; second = zero }

-- A single search: the first list whose reference is the wanted one.
unfoldable pub single_of : Block → Bool → Ref → Mv → Option MvPair
single_of k global r g =
    pick (eq_z k.refs.first.0 r.0) (Some (alone (lent_of global g k.mv.first)))
    (pick (eq_z k.refs.second.0 r.0) (Some (alone (lent_of global g k.mv.second))) None)

-- A compound search: both references equal, in order. Each vector goes by its own reference's global type.
unfoldable pub compound_of : Block → Bool → Want → Option MvPair
compound_of k global q =
    pick (not (eq_z k.refs.first.0 q.refs.first.0)) None
    (pick (not (eq_z k.refs.second.0 q.refs.second.0)) None
    (Some (record { first = lent_of global q.gmv.first k.mv.first; second = lent_of global q.gmv.second k.mv.second })))

-- not an inter block: nothing. `negsuc 0` is -1, NONE
unfoldable pub offer_of : Block → Want → Option MvPair
offer_of k q =
    pick (eq_mv k.mv.first invalid) None
    (pick (eq_z q.refs.second.0 (negsuc 0)) (single_of k (global_mode k) q.refs.first q.gmv.first) (compound_of k (global_mode k) q))
