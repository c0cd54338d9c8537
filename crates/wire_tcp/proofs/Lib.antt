pub mod PatienceLemmas
pub mod WaitLemmas
pub mod TryLemmas
pub mod AgeLemmas
pub mod ServedLemmas
pub mod SendLemmas
pub mod ConnectionLemmas
