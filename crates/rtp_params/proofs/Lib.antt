pub mod CodecLemmas
pub mod ReadLemmas
pub mod Back
pub mod CodecBack
pub mod WholeBack
pub mod Holds
pub mod HoldsWhole
pub mod MappingHolds
