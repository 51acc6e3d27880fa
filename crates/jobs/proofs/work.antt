-- The laws of the definitions in specs/: a row of work, by its job's kind.
pub mod Works
