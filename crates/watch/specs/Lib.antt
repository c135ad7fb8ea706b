pub mod Entries
pub mod Facts
pub mod Sights
pub mod States
pub mod Texts
pub mod Watch
pub mod Words
