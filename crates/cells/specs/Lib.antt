-- What lies in the lent buffers, from document 01, "Bytes that are lent".
pub mod Size
pub mod Cell
pub mod Block
