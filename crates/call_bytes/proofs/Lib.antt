pub mod Tables
pub mod Texts
pub mod for_laws
