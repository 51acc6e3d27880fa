-- `temporal::aim::pair_of` meets its contract.
use Rattle.std.proofs.Common.{◌≡◌, ap, arith, rules, nat_abs}
use Rattle.cells.proofs.Cells.{projected-moves}
use Rattle.temporal.proofs.Aims.{paired, held_small, taken-towards}
use Rattle.temporal.proofs.aim.pair_of.Goals as goal

pub take_towards-first-requires : goal.take_towards-first-requires
take_towards-first-requires c =
    let m = projected-moves _ c.requires.0 c.requires.1 in
    let d : c.magnitude-den.result ≡ nat_abs c.args.c.reference.0 = search rules in
    (m.near, held_small c.args.a.first c.requires.2, omega (arith, d, ap nat_abs m.is), omega (arith, d, ap nat_abs m.is))

pub second_of-second-requires : goal.second_of-second-requires
second_of-second-requires c =
    let m = projected-moves _ c.requires.0 c.requires.1 in
    let d : c.magnitude-den.result ≡ nat_abs c.args.c.reference.0 = search rules in
    (m.near, c.requires.3, omega (arith, d, ap nat_abs m.is), omega (arith, d, ap nat_abs m.is))

pub returns : goal.returns
returns c =
    let d : c.magnitude-den.result ≡ nat_abs c.args.c.reference.0 = search rules in
    (paired c.args.a c.args.c.mv d (taken-towards c.args.a.first c.magnitude-den.result c.args.a.integer c.args.a.hp c.args.c.mv c.requires.2 c.take_towards-first.ensures.0) c.second_of-second.ensures, c.take_towards-first.ensures.1)
