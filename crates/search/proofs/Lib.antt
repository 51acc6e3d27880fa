-- The laws of a search.
pub mod Temporals
pub mod Extends
pub mod Finds
pub mod Sevens
