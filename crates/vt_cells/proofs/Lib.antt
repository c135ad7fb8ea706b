pub mod Bits
pub mod Blocks
pub mod Stated
pub mod Widths
