-- The neighbours of a block: how each is read, and what it gives to a search (the standard's 7.10.2.7 to 7.10.2.9).
pub mod Neighbour
pub mod Want
