-- The laws of the definitions in specs/.
pub mod Alls
pub mod Mfmvs
pub mod Records
