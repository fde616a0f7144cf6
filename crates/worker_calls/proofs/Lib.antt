mod EntryLemmas
mod LinkLemmas
mod PlaceLemmas
mod PlanLemmas
mod SsrcLemmas
mod TableLemmas
