pub mod Written
pub mod Reading
pub mod WellFormed
pub mod Gives
pub mod Case
pub mod Lower
pub mod Rows
