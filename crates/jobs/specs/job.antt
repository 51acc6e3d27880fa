-- Jobs and windows (document 01): a job's record, its bytes, and windows that share a cell.
pub mod Job
pub mod Bytes
pub mod Share
