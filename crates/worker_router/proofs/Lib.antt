mod ByIdLemmas
mod ListLemmas
mod PlaceLemmas
mod PassLemmas
mod TableLemmas
mod RouterLemmas
mod CloseLemmas
mod AddLemmas
