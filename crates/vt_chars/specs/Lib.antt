pub mod CharMap
pub mod Characters
pub mod Prefix
pub mod Push
pub mod Utf8
