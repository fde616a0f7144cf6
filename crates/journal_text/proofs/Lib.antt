pub mod Texts
pub mod Lines
pub mod Journals
pub mod Sizes
pub mod Shapes
