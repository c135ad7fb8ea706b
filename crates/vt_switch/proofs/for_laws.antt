pub mod Due
pub mod Hops
pub mod Lawful
pub mod Marks
pub mod Owners
mod Reasons
mod Stays
pub mod Told
