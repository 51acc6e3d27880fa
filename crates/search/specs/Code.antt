-- What only follows the code: a reader of the public contracts needs none of it.
pub mod Find
pub mod Parts
pub mod Pool
pub mod Walk
pub mod Bytes
