pub mod Owners
pub mod RowPieces
pub mod Cache
pub mod History
pub mod Shelf
