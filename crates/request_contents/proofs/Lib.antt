pub mod MethodLemmas
pub mod BackLemmas
pub mod WholeLemmas
