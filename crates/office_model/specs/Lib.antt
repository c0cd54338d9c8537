pub mod RecordLines
pub mod TableFaults
pub mod Replies
pub mod ReplyWords
pub mod States
pub mod Tables
