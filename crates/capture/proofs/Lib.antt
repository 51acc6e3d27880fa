-- What a file's bytes are by the definitions in specs/: for the functions' proofs, and for the crates that read a capture.
pub mod Files
