pub mod Alike
pub mod DrawableRows
mod Keeps
pub mod Lengths
pub mod Nearby
mod Palettes
pub mod Parts
mod Pens
mod PlainPens
mod PlainTable
pub mod Reached
pub mod ReachedCells
pub mod Redrawing
mod RowLengths
mod States
