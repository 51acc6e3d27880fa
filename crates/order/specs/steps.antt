-- A job's record, and a batch, after a step.
pub mod Turn
