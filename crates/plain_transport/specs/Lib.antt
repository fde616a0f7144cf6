pub mod Calls
pub mod Connection
pub mod Laws
