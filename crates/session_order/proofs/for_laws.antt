pub mod Callers
pub mod Lively
pub mod Meant
pub mod Orders
pub mod Progress
