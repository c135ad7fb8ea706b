mod Digits
mod Does
mod Glyphs
mod Joins
mod Moves
mod Nearing
mod Numbers
mod Overlays
mod Paints
mod Pendings
mod Prints
mod Rows
mod Sheets
pub mod Stated
mod for_laws
