-- The laws of the definitions in specs/.
pub mod Shorts
pub mod Described
pub mod Flags
pub mod Selections
