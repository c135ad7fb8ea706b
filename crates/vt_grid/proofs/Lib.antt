mod Border
mod Clears
mod Copied
mod Covered
mod Edited
mod Joins
mod Laid
mod Lays
mod Naming
pub mod Narrow
mod Parts
mod Scrolls
mod Shown
mod Split
pub mod Stated
mod Turns
mod for_laws
