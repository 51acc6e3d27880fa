-- `stack::add::add_bits` meets its contract.
use Rattle.std.proofs.Common.{ap, refl, sym, ◌∙◌, arith}
use Rattle.stack.specs.Code.Found.{view, live}
use Rattle.stack.specs.Code.Numbers.{found_at, pair_in}
use Rattle.stack.proofs.Adds.{place-given, no-place, in_use, hit, behind, no_room, heft-joined}
use Rattle.stack.proofs.add.add_bits.Goals as goal

pub add_weight-requires : goal.add_weight-requires
add_weight-requires c =
    let p = place-given (live (found_at c.args.s.now)) (pair_in c.args.k) (sym c.seek.ensures ∙ c.in-Some.is) in
    (c.requires.0, omega (arith, p.1, in_use c.args.s.now c.requires.0), c.requires.1)

pub returns-in-Some : goal.returns-in-Some
returns-in-Some c =
    let t = c.add_weight in
    let p = place-given (live (found_at c.args.s.now)) (pair_in c.args.k) (sym c.seek.ensures ∙ c.in-Some.is) in
    let v = ap view t.ensures.1 ∙ hit c.args.s.now c.requires.0 (pair_in c.args.k) p.0 c.args.w (omega (arith, p.1, in_use c.args.s.now c.requires.0)) in
    (t.ensures.0, v, heft-joined (found_at c.args.s.now) (found_at t.new.s) (pair_in c.args.k) c.args.w v)

pub returns-then-count_in-lt8 : goal.returns-then-count_in-lt8
returns-then-count_in-lt8 c =
    let t = c.lay in
    let p = no-place (live (found_at c.args.s.now)) (pair_in c.args.k) (sym c.seek.ensures ∙ c.in_default.is) in
    let v = ap view t.ensures.1 ∙ behind c.args.s.now c.requires.0 (pair_in c.args.k) refl c.args.w (omega (arith, p, in_use c.args.s.now c.requires.0)) (omega arith) in
    (t.ensures.0, v, heft-joined (found_at c.args.s.now) (found_at t.new.s) (pair_in c.args.k) c.args.w v)

pub returns-else-count_in-lt8 : goal.returns-else-count_in-lt8
returns-else-count_in-lt8 c =
    let p = no-place (live (found_at c.args.s.now)) (pair_in c.args.k) (sym c.seek.ensures ∙ c.in_default.is) in
    let v = no_room c.args.s.now c.requires.0 (pair_in c.args.k) refl c.args.w (omega (arith, p, in_use c.args.s.now c.requires.0)) (omega arith) in
    (c.requires.0, v, heft-joined (found_at c.args.s.now) (found_at c.args.s.now) (pair_in c.args.k) c.args.w v)
