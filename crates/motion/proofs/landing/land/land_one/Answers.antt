-- `motion::landing::land::land_one` meets its contract.
use Rattle.motion.proofs.landing.Landings.{stamped, unstamped}
use Rattle.motion.proofs.landing.Placed.{near-in}
use native.Mathlib.Omega.{arith}
use mathlib.Core.Path.{sym, ◌∙◌}
use Rattle.motion.proofs.landing.land.land_one.Goals as goal

pub overflow_sub-p : goal.overflow_sub-p
overflow_sub-p c = omega (arith, near-in _ _ _ _ _ (sym c.is_near.ensures ∙ c.if-is_near.true))

pub write-requires : goal.write-requires
write-requires c = omega (arith, near-in _ _ _ _ _ (sym c.is_near.ensures ∙ c.if-is_near.true))

pub returns-then-is_near : goal.returns-then-is_near
returns-then-is_near c =
    let f = c in
    stamped _ _ _ _ _ _ (sym f.is_near.ensures ∙ f.if-is_near.true) c.write.ensures

pub returns-else-is_near : goal.returns-else-is_near
returns-else-is_near c = unstamped _ _ _ _ _ _ (sym c.is_near.ensures ∙ c.if-is_near.false)
