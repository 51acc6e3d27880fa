-- `search::parts::field_of` meets its contract.
use native.Mathlib.Omega.{arith}
use Rattle.search.specs.Parts.{field_of}
use Rattle.search.proofs.Temporals.{proj-fits, row-most}
use Rattle.search.proofs.parts.field_of.Goals as goal

pub overflow_mul-result : goal.overflow_mul-result
overflow_mul-result c =
    let a = c.args in
    rw c.halved.ensures (record { fits = omega (arith, row-most a.z a.b.y.0 c.requires.1) })

pub overflow_add-result : goal.overflow_add-result
overflow_add-result c =
    let a = c.args in
    rw c.halved.ensures (record { fits = omega (arith, row-most a.z a.b.y.0 c.requires.1, c.proj_in.ensures, proj-fits a.tile.now (λ i. (c.type_inv.tile i).fits)) })

pub overflow_add-result-2 : goal.overflow_add-result-2
overflow_add-result-2 c =
    let a = c.args in
    let p = c.requires.2 in
    rw (c.halved.ensures, c.halved-2.ensures)
    (record { fits = omega (arith, row-most a.z a.b.y.0 c.requires.1, c.proj_in.ensures, proj-fits a.tile.now (λ i. (c.type_inv.tile i).fits), p.before, p.wide) })

pub returns : goal.returns
unfolding field_of
returns c =
    (rw (c.proj_in.ensures, c.halved.ensures, c.halved-2.ensures, c.projected_cells.ensures), proj-fits c.args.tile.now (λ i. (c.type_inv.tile i).fits))
