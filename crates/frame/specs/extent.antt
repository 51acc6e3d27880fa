-- The sizes of a frame, and those of the buffers that are lent for it.
pub mod Sizes
