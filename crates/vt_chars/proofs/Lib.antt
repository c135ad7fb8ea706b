pub mod Prefixes
pub mod Stated
pub mod for_laws
