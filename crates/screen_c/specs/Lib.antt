pub mod Fed
pub mod Held
pub mod Loans
pub mod Marks
pub mod Shown
pub mod Sizes
