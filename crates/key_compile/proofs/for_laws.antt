pub mod Dumpable
pub mod Same
