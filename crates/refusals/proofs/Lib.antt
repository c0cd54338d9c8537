pub mod NumberLemmas
pub mod TableLemmas
