-- Where records lie and what a splat leaves, from document 01, port order 4.
pub mod Table
pub mod Setup
pub mod splats
