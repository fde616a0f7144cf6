pub mod LongerLemmas
pub mod NotesLemmas
pub mod SentLemmas
