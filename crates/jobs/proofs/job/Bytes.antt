-- Jobs one behind the other: a whole one lies within the bytes.
-- Assumes nothing.
use Prim.Native.Nat.{ℕ, ◌+◌, ◌*◌, ◌/◌, ◌≤◌, ◌<◌}
use native.Mathlib.Nat.{mul_comm, div-mul-le_self}
use native.Mathlib.Omega.{arith}
use Rattle.ground.proofs.Products.{row_fits}

pub job-fits : (size n i : ℕ) → i < n / size → size * i + size ≤ n
job-fits size n i h = omega (arith, row_fits i (n / size) size h, div-mul-le_self n size, mul_comm i size)
