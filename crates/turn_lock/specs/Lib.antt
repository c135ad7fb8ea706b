pub mod History
pub mod Rule
pub mod Told
pub mod Views
pub mod Words
pub mod Door
pub mod Visits
