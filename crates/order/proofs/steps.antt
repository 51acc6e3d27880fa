-- A batch's step by its ways out.
pub mod Turns
