-- What every later crate's contracts are written with.
pub mod Pick
pub mod Answer
pub mod Put
pub mod Script
pub mod Sign
pub mod Twos
pub mod Little
pub mod Window
pub mod Below
pub mod Span
pub mod Last
pub mod Tab
