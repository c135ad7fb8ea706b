mod Causes
mod Complete
mod Cuts
mod Displays
mod Drawing
mod Journals
mod Knows
mod Made
mod Numbers
mod Oks
mod Sessions
pub mod Stated
mod Statuses
pub mod Streams
mod Typed
mod TypeTables
mod Upgrades
mod for_laws
