pub mod Characters
pub mod Colours
pub mod Picture
pub mod Runs
pub mod Svg
