-- A search on lent bytes.
pub mod Question
pub mod Store
pub mod Whole
