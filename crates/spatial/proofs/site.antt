-- The laws of a block's place.
pub mod Sides
