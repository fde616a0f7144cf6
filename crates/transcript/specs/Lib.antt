pub mod Lines
pub mod LinesRows
