pub mod Counting
pub mod Downs
pub mod Outs
pub mod Places
pub mod Unplugging
pub mod for_laws
