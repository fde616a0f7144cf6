pub mod PipeLaws
pub mod PipeLemmas
pub mod PipeReads
