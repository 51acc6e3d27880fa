-- What only follows the code: a reader of the public contracts needs none of it.
pub mod Scan
pub mod Take
pub mod Around
pub mod Site
pub mod Neighbour
