pub mod RecordLineLemmas
