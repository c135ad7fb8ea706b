pub mod Acts
pub mod Calls
pub mod Deaths
pub mod Display
pub mod Law
pub mod Moments
pub mod News
