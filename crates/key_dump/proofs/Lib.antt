pub mod Adding
pub mod Rows
pub mod for_laws
