-- The two motion fields: what a save leaves in the saved one (7.19), and a load in the projected one (7.9.2 to 7.9.4).
pub mod saving
pub mod landing
pub mod loading
pub mod Code
