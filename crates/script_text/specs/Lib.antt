pub mod Words
pub mod Parted
pub mod Forms
pub mod Calls
pub mod Gives
pub mod Script
pub mod Laws
pub mod Rows
