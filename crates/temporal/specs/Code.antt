-- What only follows the code: a reader of the public contracts needs none of it.
pub mod Sweep
