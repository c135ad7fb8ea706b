pub mod Codes
pub mod Flags
pub mod Places
pub mod Text
