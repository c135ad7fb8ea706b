pub mod Arrays
pub mod Checked
pub mod Collecting
pub mod ErrorTexts
pub mod FaultCodes
pub mod Fields
