pub mod Packets
pub mod Run
pub mod Outside
pub mod Forwarding
pub mod Emits
pub mod Laws
pub mod Rows
