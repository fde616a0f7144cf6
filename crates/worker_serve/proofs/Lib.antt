pub mod BindLemmas
pub mod EventLemmas
pub mod HearingLemmas
pub mod PayloadLemmas
pub mod SendingLemmas
pub mod ServeLemmas
