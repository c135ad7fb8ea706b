pub mod Charges
pub mod Judged
pub mod VerdictLaws
