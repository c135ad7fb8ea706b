mod Bases
mod Begun
mod Bodies
mod Bytewise
mod Comes
mod Commons
mod Empties
mod Fields
mod Follows
mod Fronts
mod Joined
mod Lanes
mod Numbered
mod Openers
mod Opens
mod Piecewise
mod Printables
mod Readings
mod Rests
pub mod Runs
mod Settling
mod ShortForms
mod ShortSequences
mod Sizes
pub mod Stated
mod Steps
mod Walks
pub mod Wholes
pub mod for_laws
