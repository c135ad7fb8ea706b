pub mod Groups
pub mod ScanPrefix
pub mod Laws
pub mod Scan
pub mod Start
