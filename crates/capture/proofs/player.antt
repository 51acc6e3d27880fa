-- Laws of a capture that is opened and played.
pub mod Opens
pub mod Orders
pub mod Outcomes
pub mod Finished
