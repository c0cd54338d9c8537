pub mod IdentifierLemmas
mod Walks
pub mod WordLemmas
pub mod ScopeLemmas
pub mod RuleLemmas
pub mod IndexLemmas
pub mod DecideLemmas
mod BoundaryLemmas
mod RegionLemmas
mod KnownLemmas
mod GrantLemmas
pub mod DecisionLaws
pub mod IdLemmas
pub mod ReadLemmas
pub mod PolicyLaws
pub mod DocumentLaws
mod ReachLemmas
