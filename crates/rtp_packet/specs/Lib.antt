pub mod Packet
pub mod Fault
pub mod Reading
pub mod Viewing
pub mod Rewriting
pub mod Rows
