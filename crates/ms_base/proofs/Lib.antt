pub mod HexLemmas
pub mod IdLemmas
pub mod IdTextLemmas
pub mod NameLemmas
