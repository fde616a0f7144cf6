pub mod Serving
pub mod Hearing
pub mod Sending
pub mod ServeEnds
