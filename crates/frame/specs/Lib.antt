-- What frame setup is, from document 01 and the standard's 7.9.1 and 7.9.2.
pub mod Mfmv
pub mod Record
pub mod Worked
pub mod extent
pub mod hints
