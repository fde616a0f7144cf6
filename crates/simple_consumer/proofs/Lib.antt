mod Emitted
mod PassLemmas
mod Spans
mod TableLemmas
mod Writes
