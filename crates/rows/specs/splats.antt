-- Splat: what is refused, and the records that it lays.
pub mod Splat
