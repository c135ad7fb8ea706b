pub mod Colours
pub mod Kept
pub mod Laws
pub mod Numbers
pub mod Pairs
pub mod Words
