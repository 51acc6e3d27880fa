-- The laws of the definitions in specs/.
pub mod Tabled
pub mod Parts
pub mod Apart
