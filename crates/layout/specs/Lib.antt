-- The layouts of a frame record, of a tile and of a description.
pub mod DescriptionBytes
pub mod FrameBytes
pub mod TileBytes
