pub mod Answers
pub mod AnswerTests
pub mod Views
pub mod Places
pub mod AnswerLaws
pub mod AnswerChanges
pub mod ChangeTests
