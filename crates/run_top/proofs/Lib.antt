pub mod ReadLemmas
pub mod ReplayLemmas
pub mod WorkerLemmas
