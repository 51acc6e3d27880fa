-- The laws of cells, records and sizes that callers cite.
pub mod Sizes
pub mod Cells
pub mod Blocks
