-- The candidate search (7.10.2): its parts in the standard's order, and its answer.
pub mod Parts
pub mod Extend
pub mod Find
pub mod extra
pub mod front
pub mod lent_bytes
pub mod candidates
pub mod Code
