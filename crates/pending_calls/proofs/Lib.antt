pub mod KeptLemmas
pub mod LawLemmas
pub mod ListedLemmas
pub mod UnderLemmas
