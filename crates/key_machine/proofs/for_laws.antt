pub mod Following
pub mod Histories
pub mod Medium
