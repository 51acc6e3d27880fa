-- The candidate stack: the standard's 7.10.2.7 to 7.10.2.9 (weights and places), 7.10.2.11 (sorting) and 7.10.2.14 (clamping).
pub mod Stack
pub mod Answered
pub mod Sort
pub mod Stable
pub mod Clamp
pub mod Code
