pub mod Rights
pub mod Turns
pub mod Reach
pub mod ReachedGroups
pub mod Examples
pub mod ReachTests
pub mod Trials
pub mod Codes
