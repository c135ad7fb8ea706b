pub mod Keymaps
mod Meant
mod Once
pub mod Outcomes
pub mod Plays
mod Setups
pub mod Upgraded
