pub mod RowLemmas
pub mod NameLemmas
pub mod KeptLemmas
pub mod MediaLemmas
pub mod CountLemmas
pub mod OfferLemmas
pub mod NamedLemmas
pub mod LawLemmas
