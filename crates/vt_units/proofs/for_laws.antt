mod Broken
pub mod Completes
pub mod Cutting
pub mod Drops
pub mod Prints
