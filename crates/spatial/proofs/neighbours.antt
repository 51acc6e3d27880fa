-- The laws of neighbours that callers cite.
pub mod Known
