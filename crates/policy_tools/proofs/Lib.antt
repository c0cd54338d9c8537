pub mod FreeNameLemmas
pub mod PointLemmas
pub mod RepresentativeLemmas
pub mod CallerLemmas
pub mod TakeLemmas
pub mod IdleLemmas
pub mod ClaimLemmas
pub mod EntryRightLemmas
pub mod IsolatedLemmas
mod NameRightLemmas
mod NameGroupLemmas
mod GroupRowLemmas
mod ChangeLemmas
mod LimitLemmas
mod ExpectationLemmas
mod WordLaws
mod ReadingLemmas
mod ExpectationLaws
mod SliceLemmas
mod ReaderLemmas
