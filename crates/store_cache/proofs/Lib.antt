pub mod RecordRowLemmas
pub mod PieceLemmas
pub mod OwnerLemmas
pub mod CacheLemmas
pub mod HistoryLemmas
pub mod ShelfLemmas
