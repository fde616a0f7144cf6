pub mod Answers
pub mod Apply
pub mod Closes
pub mod LookUps
pub mod Tables
