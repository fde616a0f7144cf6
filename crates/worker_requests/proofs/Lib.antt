pub mod IpLemmas
pub mod ContentLemmas
pub mod TextLemmas
pub mod ShortLemmas
