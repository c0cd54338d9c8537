pub mod TextLemmas
pub mod FieldLemmas
pub mod GatherLemmas
pub mod EntryLemmas
pub mod ItemLaws
pub mod UpdateLaws
pub mod PrintLaws
