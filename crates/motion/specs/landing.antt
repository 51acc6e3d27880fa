-- Where saved cells land: document 01, port order 6, and the standard's 7.9.2 to 7.9.4.
pub mod Lands
pub mod Row
pub mod Targets
