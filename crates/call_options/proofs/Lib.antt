mod IpLemmas
mod LawLemmas
