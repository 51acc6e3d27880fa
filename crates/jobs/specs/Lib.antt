-- Jobs and windows (document 01): a batch's admission, a step.
pub mod Admit
pub mod Inputs
pub mod Step
pub mod job
pub mod work
pub mod Code
