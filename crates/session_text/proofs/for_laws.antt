pub mod OneHook
pub mod OneItem
pub mod OneResult
pub mod OneSession
pub mod Waits
