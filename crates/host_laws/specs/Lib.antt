pub mod Cuts
pub mod Drawn
pub mod Streams
