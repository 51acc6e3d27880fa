-- Jobs and windows (document 01): a step's row of work.
pub mod Work
