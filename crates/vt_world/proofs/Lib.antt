mod Alters
mod Answered
mod Bells
pub mod Copied
mod Cores
mod Freed
pub mod Histories
mod Lives
mod Masks
mod Owners
mod Places
mod Refused
mod Requests
pub mod Stated
mod Stays
mod Typed
mod Users
mod Writes
pub mod for_laws
