pub mod Alt
pub mod Marking
pub mod Stated
pub mod Steps
pub mod Texts
pub mod Whole
pub mod for_laws
