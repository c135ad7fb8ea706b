pub mod Dumps
pub mod Forms
pub mod Rows
