pub mod Accepting
pub mod CertText
pub mod Certificates
pub mod ErrorTexts
pub mod Finding
pub mod Hops
pub mod Reading
