mod Printables
mod Runs
pub mod Lengths
