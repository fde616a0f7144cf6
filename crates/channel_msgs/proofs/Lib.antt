pub mod PacketLemmas
pub mod ReadLemmas
pub mod WriteLemmas
pub mod ContentLemmas
pub mod LawLemmas
pub mod KindLemmas
pub mod TextLemmas
