mod Answered
mod Causes
mod Certified
mod Certs
mod Items
mod Knowing
mod Listening
mod Places
mod Printed
pub mod Stated
