pub mod Callers
pub mod Drill
pub mod Final
pub mod Playing
pub mod Racing
pub mod Runs
