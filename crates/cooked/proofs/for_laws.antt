pub mod Pushes
pub mod ReadingLaws
