-- Laws of the layouts and of the answers.
pub mod Lent
pub mod Kept
pub mod LentJobs
pub mod KeptJobs
pub mod Shown
pub mod Sought
