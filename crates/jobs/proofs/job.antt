-- The laws of the definitions in specs/: what a job's front and a batch's test show, and that refusal 11 is what it should be.
pub mod Fronts
pub mod Batches
pub mod Shared
pub mod Bytes
