-- What a batch is that is judged well-formed.
-- Assumes nothing.
use mathlib.Core.Path.{◌≡◌}
use mathlib.Core.Bool.{true}
use Prim.Native.Nat.{ℕ, ◌≤◌, ◌<◌}
use lib.Dec.{leb}
use borrow.Author.Tests.{leb-true}
use Rattle.ground.specs.Below.{all_below}
use Rattle.ground.proofs.Belows as belows
use Rattle.ground.proofs.Picks.{both}
use Rattle.frame.specs.extent.Sizes.{one_to}
use Rattle.jobs.specs.declared.job.record.Batch.{Batch}
use Rattle.jobs.specs.job.Job.{job_at, well_kind, well_batch}

-- a batch whose jobs may be judged one by one
pub one-to-eight : (n : ℕ) → one_to 8 n ≡ true → (1 ≤ n) × (n ≤ 8)
unfolding one_to
one-to-eight n e = let p = both (leb 1 n) (leb n 8) e in (leb-true 1 n p.0, leb-true n 8 p.1)

pub record Formed (b : Batch) : Type 0 where
  pub some : 1 ≤ b.n
  pub few : b.n ≤ 8
  pub kinds : (i : ℕ) → i < b.n → well_kind (job_at b i) ≡ true

pub formed : (b : Batch) → well_batch b ≡ true → Formed b
unfolding well_batch
formed b w =
    let p = both (one_to 8 b.n) (all_below b.n (λ i. well_kind (job_at b i))) w in
    let q = one-to-eight b.n p.0 in
    record { some = q.0; few = q.1; kinds = λ i g. belows.at (λ k. well_kind (job_at b k)) b.n i p.1 g }
