-- `cells::block::Block::read` meets its contract.
use mathlib.Core.Path.{◌≡◌, ap}
use mathlib.Core.List.{List}
use Prim.Native.Nat.{ℕ, ◌+◌, ◌*◌}
use native.Mathlib.Omega.{arith}
use lib.ListN.{get_or}
use Rattle.cells.specs.Block.{block_at}
use Rattle.cells.proofs.block.Block.read.Goals as goal

pub returns : goal.returns
unfolding block_at
returns c =
    let i = c.args.i in
    let w = c.word_at-tail.ensures in
    let j : 12 * i + 8 + 2 ≡ 12 * i + 10 = omega arith in
    let k : 12 * i + 8 + 3 ≡ 12 * i + 11 = omega arith in
    rw (c.read_vectors-mv.ensures, c.refs_of-refs.ensures, c.to_le_bytes.ensures, ap (λ (xs : List ℕ). get_or xs 0 0) w, ap (λ (xs : List ℕ). get_or xs 1 0) w, ap (λ (xs : List ℕ). get_or xs 2 0) w, ap (λ (xs : List ℕ). get_or xs 3 0) w, j, k)
