-- What a save leaves in a saved field: document 01, port order 5, and the standard's 7.19.
pub mod Area
pub mod Save
