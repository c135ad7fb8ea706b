pub mod Act
pub mod Index
pub mod Kinds
pub mod Laws
pub mod Names
pub mod Numbers
pub mod Packed
pub mod Symbols
