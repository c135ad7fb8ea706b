pub mod Asking
mod AskingTable
mod AskingTexts
mod CharacterRows
mod Edits
mod FollowWide
mod Halved
pub mod InsideTable
pub mod Insides
pub mod PutBack
mod RowEdits
pub mod TapeCharacters
pub mod TapeHalves
pub mod TapeInside
pub mod Tapes
pub mod TextEnds
mod TextRows
