mod Cases
mod HandleParts
mod Pieces
mod RowTests
