pub mod CallLemmas
pub mod InboxLemmas
pub mod ReadLemmas
