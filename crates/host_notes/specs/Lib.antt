pub mod Indexes
pub mod Keys
pub mod Sent
pub mod Verdicts
