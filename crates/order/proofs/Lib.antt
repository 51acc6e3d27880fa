-- Demand 3, proved: what an admitted batch is, its windows, a desk's steps by their cases, the batch as a plan of the general theorem; then `Ordered`.
pub mod Admission
pub mod Windowed
pub mod Planned
pub mod Turns
pub mod Wholes
pub mod Ordered
pub mod Plays
