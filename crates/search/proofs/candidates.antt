-- Laws of the candidate search over lent records.
pub mod Eaches
pub mod Plans
