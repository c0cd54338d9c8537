pub mod Faults
pub mod Labels
pub mod Order
pub mod Keys
pub mod Spelling
pub mod Reading
pub mod Rows
