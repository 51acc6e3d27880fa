-- The laws of a search's front.
pub mod Contexts
pub mod Fronts
