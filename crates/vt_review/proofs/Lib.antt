pub mod Behind
pub mod Differences
pub mod HighKinds
pub mod OldRows
pub mod Rings
pub mod Stills
pub mod Tellings
pub mod Writing
