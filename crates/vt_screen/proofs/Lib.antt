mod Changes
mod Controls
mod CursorSteps
mod Cuts
mod FeedRuns
mod Falling
mod Feeds
mod Fronts
mod Hearing
mod Levels
mod Printed
mod Quiet
mod RowLengths
mod Sequences
mod Shown
pub mod Stated
mod TextSteps
pub mod for_laws
