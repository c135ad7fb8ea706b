pub mod Entries
pub mod Holes
pub mod Places
pub mod Texts
