-- The front of a search and its context: document 01's refusals 1, 10 and 4, and the standard's 7.10.2.14.
pub mod Ask
pub mod Context
