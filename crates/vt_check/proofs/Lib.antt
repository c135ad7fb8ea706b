pub mod Growing
pub mod Overs
pub mod Stated
pub mod Tested
pub mod VerdictLaws
