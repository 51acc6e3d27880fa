-- What only follows the code: a reader of the public contracts needs none of it.
pub mod Rooms
pub mod Walk
pub mod Needs
pub mod Places
