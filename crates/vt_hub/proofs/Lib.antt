pub mod Lists
pub mod Carried
pub mod Sounds
pub mod Found
pub mod Between
pub mod Whole
pub mod Opens
pub mod Ready
mod Bits
