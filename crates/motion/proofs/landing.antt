-- The laws of the definitions in specs/: places counted from 256, where cells land, one cell of the projection after a row, and that absent cells are alike.
pub mod Placed
pub mod Landings
pub mod Targeted
pub mod Alike
