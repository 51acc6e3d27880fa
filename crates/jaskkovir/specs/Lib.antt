-- What the exported functions answer and leave in the lent bytes.
pub mod Leaf
pub mod Framed
pub mod Tiled
pub mod Moved
pub mod Batched
pub mod Captured
pub mod Searched
