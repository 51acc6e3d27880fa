-- What the vector operations are, from the standard. P1 to P8 are in `Worked`.
pub mod Vector
pub mod Projection
pub mod Precision
pub mod Hint
pub mod Worked
