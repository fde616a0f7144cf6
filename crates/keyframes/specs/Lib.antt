pub mod Fields
pub mod Laws
pub mod Places
pub mod Reading
pub mod Vp8
pub mod Vp9
