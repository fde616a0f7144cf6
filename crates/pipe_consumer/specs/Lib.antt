pub mod Emits
pub mod Laws
pub mod Lower
pub mod Rows
pub mod Streams
