-- The candidate search over eight lent records.
pub mod Each
pub mod Plan
