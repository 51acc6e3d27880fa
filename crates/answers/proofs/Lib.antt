-- Every answer is sound (`Sounds`, over what each part of a search keeps), and a search looks at its block's surroundings alone (`Looks`).
pub mod Least
pub mod Kept
pub mod Swept
pub mod Parts
pub mod Extras
pub mod Sounds
pub mod Places
pub mod Spots
pub mod Items
pub mod Looks
pub mod Same
