pub mod Bits
pub mod Numbers
pub mod Extension
pub mod Padding
pub mod Whole
pub mod Rewritten
