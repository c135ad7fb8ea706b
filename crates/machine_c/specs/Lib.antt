pub mod Admitted
pub mod Calls
pub mod Cells
pub mod Keymaps
pub mod Loans
pub mod Redrawn
pub mod Shown
pub mod Started
