pub mod Journals
pub mod Totals
pub mod Keeps
