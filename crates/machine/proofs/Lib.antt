pub mod Admitted
pub mod Afters
pub mod Continued
