pub mod Callers
pub mod Rights
pub mod Tickets
