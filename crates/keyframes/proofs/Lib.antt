pub mod Bits
pub mod Pieces
pub mod Places
pub mod Vp8Grammar
pub mod Vp9Grammar
