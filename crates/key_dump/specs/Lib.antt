pub mod Dump
pub mod ReadsBack
pub mod Spaced
