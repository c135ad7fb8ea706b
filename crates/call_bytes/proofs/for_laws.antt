pub mod Again
pub mod Blocks
pub mod KeptBytes
