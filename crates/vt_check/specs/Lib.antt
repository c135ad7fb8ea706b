pub mod Judging
pub mod Verdicts
pub mod Watching
