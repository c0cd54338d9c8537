pub mod ItemFaults
pub mod ItemLines
pub mod Reading
pub mod Views
pub mod Texts
