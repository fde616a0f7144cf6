pub mod FramesLemmas
pub mod SplitLemmas
pub mod BreakLemmas
pub mod Front
pub mod CallLemmas
pub mod ReaderLemmas
