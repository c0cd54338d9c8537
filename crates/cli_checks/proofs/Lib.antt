pub mod ReportLemmas
pub mod OriginLemmas
pub mod OriginLaws
pub mod CheckLemmas
pub mod PrintedLemmas
pub mod ReportTextLemmas
pub mod ReachAskLaws
