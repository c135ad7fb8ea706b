pub mod Grid
pub mod Halves
pub mod Laws
pub mod StoredRow
pub mod Ring
pub mod Store
