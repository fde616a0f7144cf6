-- Open Producers by their Routers and ids. This project's own.
use Rattle.std.specs.Prelude.{◌≡◌, ℕ, ◌&&◌, List, Bool, count_by}
use Rattle.std.specs.Map.{values_of}
use Rattle.ms_base.specs.declared.id.Id.{Id}
use Rattle.ms_base.specs.declared.keys.Serial.{Serial}
use Rattle.object_tree.specs.Objects.{same_id, same_serial}
use Rattle.request_build.specs.declared.built.Offer.{Offer}
use Rattle.request_build.specs.declared.router_ids.RouterIds.{RouterIds}
use Rattle.request_build.specs.Counts.{times_in}

-- it is of a Producer of this Router and this id
abbrev pub is_offer_in : Serial → Id → Offer → Bool
is_offer_in router id offer = same_serial offer.router router && same_id offer.id id

abbrev pub offers : Serial → Id → ℕ × Offer → Bool
offers router id entry = is_offer_in router id entry.1

-- an id is there as often as a Producer of it is kept
abbrev pub AreCounted : List (ℕ × Offer) → RouterIds → Type 0
AreCounted entries ids = (router : Serial) (id : Id) → times_in ids router id ≡ count_by (is_offer_in router id) (values_of entries)
