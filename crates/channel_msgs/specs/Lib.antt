pub mod View
pub mod Packet
pub mod Read
pub mod Json
pub mod Laws
pub mod Rows
