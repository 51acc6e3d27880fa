-- A frame's description, the distances of its references, and which of them are projected (7.9.1).
pub mod Description
pub mod Distances
pub mod Selection
