mod Lookups
mod Sets
mod Sound
pub mod Stated
pub mod for_laws
