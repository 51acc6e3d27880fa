-- `jobs::job::share::overlaps_16` meets its contract.
use mathlib.Core.Bool.{false}
use mathlib.Core.Logic.{◌⊎◌, inl, inr}
use mathlib.Core.Path.{◌≡◌, sym, ◌∙◌}
use Prim.Native.Nat.{ℕ, ◌≤◌, ◌<◌}
use borrow.Author.Rules.{rules}
use borrow.Author.Tests.{lt-ltb, le-ltb}
use Rattle.jobs.specs.job.Share.{overlap16}
use Rattle.jobs.proofs.job.share.overlaps_16.Goals as goal

none : (a e b f : ℕ) → ((a < e) × (f ≤ b)) ⊎ (e ≤ a) → overlap16 a e b f ≡ false
unfolding overlap16
none a e b f (inl p) = rw (lt-ltb a e p.0, le-ltb b f p.1)
none a e b f (inr p) = rw (le-ltb a e p)

pub returns-then-is_within_16 : goal.returns-then-is_within_16
unfolding overlap16
returns-then-is_within_16 c = let p = c.if-b-f.true in rw (lt-ltb _ _ p.0, lt-ltb _ _ p.1, ← c.is_within_16.ensures, c.if-is_within_16.true)

pub returns-else-is_within_16 : goal.returns-else-is_within_16
unfolding overlap16
returns-else-is_within_16 c =
    let p = c.if-b-f.true in
    rw (lt-ltb _ _ p.0, lt-ltb _ _ p.1, ← c.is_within_16.ensures, c.if-is_within_16.false) c.is_within_16-else-is_within_16.ensures

pub returns-else-b-f : goal.returns-else-b-f
returns-else-b-f c = search rules ∙ sym (none _ _ _ _ c.if-b-f.either)
