pub mod Calls
pub mod Charge
pub mod Kinds
pub mod Plain
pub mod Waits
