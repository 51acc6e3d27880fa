-- The extra search (7.10.2.12) with its add extra candidate process (7.10.2.13).
pub mod Lists
pub mod Pool
pub mod Walk
