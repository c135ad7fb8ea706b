pub mod Fillings
pub mod Prefixes
