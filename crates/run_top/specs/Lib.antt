pub mod Answers
pub mod Applying
pub mod Command
pub mod Reading
pub mod Replay
pub mod StatusRows
pub mod Worker
