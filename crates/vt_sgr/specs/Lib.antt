pub mod PenState
pub mod Sgr
