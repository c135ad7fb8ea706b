pub mod Admissions
pub mod Ages
pub mod Allocation
pub mod Called
pub mod Displays
mod Kept
pub mod Mapping
pub mod Moments
pub mod Opening
mod Orders
mod Quiet
mod Reruns
pub mod Rights
mod RowDeeds
pub mod Screens
pub mod Sizes
mod Steps
mod Taping
pub mod Tellings
pub mod Traces
pub mod Translations
pub mod Unchanged
pub mod Untouched
pub mod Waits
