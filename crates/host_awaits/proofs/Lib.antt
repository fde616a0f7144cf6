pub mod EntryLemmas
pub mod KeepLemmas
pub mod LawLemmas
pub mod NameLemmas
pub mod SettleLemmas
