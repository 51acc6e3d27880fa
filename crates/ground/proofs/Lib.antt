-- The laws of the definitions in specs/, each once, for the proofs of every later crate.
pub mod Tests
pub mod Picks
pub mod Answers
pub mod Puts
pub mod Scripts
pub mod Products
pub mod Tables
pub mod Diffs
pub mod Signs
pub mod Bits
pub mod Littles
pub mod Windows
pub mod Orders
pub mod Belows
pub mod Spans
pub mod Lasts
pub mod Tabs
