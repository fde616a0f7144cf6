pub mod Front
pub mod Grammar
pub mod Kept
pub mod Packets
pub mod Writes
pub mod Parts
pub mod Tables
