pub mod Calls
pub mod Rows
pub mod State
pub mod Tables
