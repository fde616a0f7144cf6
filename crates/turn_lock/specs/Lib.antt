pub mod Lists
pub mod Turns
pub mod Plays
pub mod Passes
pub mod Guards
