mod Forgetting
pub mod Programs
pub mod Races
pub mod Standings
pub mod Starts
pub mod Stated
pub mod Steps
pub mod Turns
pub mod for_laws
