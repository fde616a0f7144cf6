pub mod Falls
pub mod Objects
pub mod Rows
pub mod Spread
pub mod Tables
