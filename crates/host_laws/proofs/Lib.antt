mod ApartLemmas
mod CutLemmas
mod DrawLemmas
mod FallLemmas
mod ReplyLemmas
mod StayLemmas
mod StreamLemmas
mod TraceLemmas
