pub mod Alike
pub mod Facts
pub mod Findings
pub mod Held
pub mod Positions
pub mod Questions
pub mod Searches
pub mod Shows
