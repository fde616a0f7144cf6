pub mod Ids
pub mod Received
pub mod Rows
pub mod Stream
pub mod Tables
