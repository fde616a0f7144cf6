pub mod State
pub mod Requests
pub mod Acts
pub mod Sockets
pub mod Plans
pub mod Lending
pub mod Tables
pub mod Rows
