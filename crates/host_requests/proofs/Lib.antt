pub mod NumberLemmas
pub mod TableLemmas
pub mod ChannelLemmas
pub mod FiledLemmas
pub mod TieLemmas
pub mod RequestLemmas
