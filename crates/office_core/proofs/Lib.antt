pub mod FootprintLaws
pub mod FootprintLemmas
pub mod MemoryLemmas
pub mod PermissionLemmas
pub mod PermissionLaws
pub mod OwnNameLemmas
pub mod SameLemmas
pub mod NumberLemmas
pub mod EmptyChangeLemmas
pub mod CommitLemmas
pub mod PartLemmas
pub mod RunLemmas
pub mod AloneLemmas
pub mod ListLemmas
mod FailTableLemmas
mod SubtreesLemmas
mod SubtreeLemmas
pub mod ToldLemmas
pub mod QueryLemmas
pub mod QueryLaws
pub mod IsolationLemmas
pub mod MovedLemmas
pub mod MadeLemmas
pub mod PlanLemmas
pub mod PromiseLemmas
pub mod HistoryLemmas
pub mod CallLemmas
pub mod AnswerLemmas
pub mod BookmarkLemmas
mod SeenLemmas
mod PassedLemmas
