pub mod Items
pub mod Keys
pub mod Parsing
pub mod Values
