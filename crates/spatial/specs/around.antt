-- A block's surroundings in the order of the standard's 7.10.2: the near row and column, the point above right; later the point above left and the far lines.
pub mod Lines
pub mod Around
