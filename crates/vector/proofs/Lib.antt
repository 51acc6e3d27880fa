-- The laws of the vector operations that callers cite.
pub mod Vectors
pub mod Words
pub mod Projections
pub mod Precisions
pub mod Hints
