-- What a request is to make is counted, once more or once less, and its name touched.
use Rattle.std.proofs.Common.{◌≡◌, ℕ, ◌+◌, ◌-◌, List, [], ◌∷◌, map, Bool, false, bytes_eq, refl, sym, ap, ◌∙◌, arith, add-zero, subst}
use Rattle.ms_base.specs.declared.id.Id.{Id}
use Rattle.ms_base.specs.declared.keys.Event.{Event}
use Rattle.ms_base.specs.declared.keys.Serial.{Serial}
use Rattle.object_tree.specs.declared.object.Object.{Object}
use Rattle.request_build.specs.declared.built.Keep.{Keep}
use Rattle.request_build.specs.declared.names.Names.{Names}
use Rattle.request_build.specs.declared.router_ids.RouterIds.{RouterIds}
use Rattle.request_build.specs.Counts as counts
use Rattle.request_build.specs.Counts.{one_if, times_named}
use Rattle.host_awaits.specs.Watching.{Watched, Watching, times_in, touched_by}
use Rattle.host_model.specs.declared.due.Due.{Due}
use Rattle.host_model.specs.declared.due.Due.TheVariants as due
use Rattle.host_model.specs.State.{offers_as}
use Rattle.host_tables.specs.Kept.{Expects, ExpectsNoMore, Touches, is_one_of}
use Rattle.host_tables.specs.declared.tables.Tables.{Tables}
use Rattle.host_tables.proofs.Counts.{or-false}
use Rattle.host_tables.proofs.Parts.{touched-none}

touches-none : (t : Tables) → Touches [] t t
touches-none t = record { waiting = touched-none t.awaits.waiting; times = λ name e. refl; others = refl }

none-more : (n : ℕ) → n ≡ n + one_if false
none-more n = sym (add-zero n)

none-less : (n : ℕ) → n ≡ n - one_if false
none-less n = omega arith

-- what makes nothing
pub expects-nothing : (d : Due) (t : Tables) → ((o : Object) (keeps : Keep) → d ≡ due.Opens o keeps → ⊥) → Expects d t t
expects-nothing (due.Opens o keeps) t h = absurd (h o keeps refl)
expects-nothing (due.Turns paused) t h =
    record { names = λ name. none-more (times_named t.kept.names name); offered = λ router id. none-more (counts.times_in t.kept.producer_ids router id); touches = touches-none t }
expects-nothing due.Nothing t h =
    record { names = λ name. none-more (times_named t.kept.names name); offered = λ router id. none-more (counts.times_in t.kept.producer_ids router id); touches = touches-none t }

pub expects_no_more-nothing : (d : Due) (t : Tables) → ((o : Object) (keeps : Keep) → d ≡ due.Opens o keeps → ⊥) → ExpectsNoMore d t t
expects_no_more-nothing (due.Opens o keeps) t h = absurd (h o keeps refl)
expects_no_more-nothing (due.Turns paused) t h =
    record { names = λ name. none-less (times_named t.kept.names name); offered = λ router id. none-less (counts.times_in t.kept.producer_ids router id); touches = touches-none t }
expects_no_more-nothing due.Nothing t h =
    record { names = λ name. none-less (times_named t.kept.names name); offered = λ router id. none-less (counts.times_in t.kept.producer_ids router id); touches = touches-none t }

touched-one : (name : List ℕ) (waiting : List Watched) → map (touched_by (bytes_eq name)) waiting ≡ map (touched_by (is_one_of (name ∷ []))) waiting
touched-one name waiting = ap (λ (f : List ℕ → Bool). map (touched_by f) waiting) (λ i n. sym (or-false (bytes_eq name n)) i)

-- the tables with other counts of what is being made, and touched awaits
abbrev pub counted_anew : Tables → Names → RouterIds → Watching → Tables
counted_anew t names ids w = record t { kept = record t.kept { names = names; producer_ids = ids }; awaits = w }

module _ (t : Tables) (o : Object) (keeps : Keep) (names : Names) (ids : RouterIds) (w : Watching) (waiting : w.waiting ≡ map (touched_by (bytes_eq o.name)) t.awaits.waiting)
    (times : (name : List ℕ) (e : Event) → times_in w name e ≡ times_in t.awaits name e) where
  touches-one : Touches (o.name ∷ []) t (counted_anew t names ids w)
  touches-one = record { waiting = waiting ∙ touched-one o.name t.awaits.waiting; times = times; others = refl }

  pub expects-opens : (d : Due) → d ≡ due.Opens o keeps → ((name : List ℕ) → times_named names name ≡ times_named t.kept.names name + one_if (bytes_eq o.name name))
      → ((router : Serial) (id : Id) → counts.times_in ids router id ≡ counts.times_in t.kept.producer_ids router id + one_if (offers_as router id keeps)) → Expects d t (counted_anew t names ids w)
  expects-opens d is more offered =
      subst (λ (x : Due). Expects x t (counted_anew t names ids w)) (sym is)
      (record { names = λ name. more name ∙ ap (λ b. times_named t.kept.names name + one_if b) (sym (or-false (bytes_eq o.name name))); offered = offered; touches = touches-one })

  pub expects_no_more-opens : (d : Due) → d ≡ due.Opens o keeps → ((name : List ℕ) → times_named names name ≡ times_named t.kept.names name - one_if (bytes_eq o.name name))
      → ((router : Serial) (id : Id) → counts.times_in ids router id ≡ counts.times_in t.kept.producer_ids router id - one_if (offers_as router id keeps)) → ExpectsNoMore d t (counted_anew t names ids w)
  expects_no_more-opens d is less offered =
      subst (λ (x : Due). ExpectsNoMore x t (counted_anew t names ids w)) (sym is)
      (record { names = λ name. less name ∙ ap (λ b. times_named t.kept.names name - one_if b) (sym (or-false (bytes_eq o.name name))); offered = offered; touches = touches-one })

-- ---- with the ids changed in a step of its own

pub expects-made : (t mid : Tables) (o : Object) (keeps : Keep) (d : Due) (names : Names) (w : Watching) → d ≡ due.Opens o keeps
    → ((name : List ℕ) → times_named names name ≡ times_named t.kept.names name + one_if (bytes_eq o.name name))
    → ((router : Serial) (id : Id) → counts.times_in mid.kept.producer_ids router id ≡ counts.times_in t.kept.producer_ids router id + one_if (offers_as router id keeps))
    → mid ≡ record t { kept = record t.kept { names = names; producer_ids = mid.kept.producer_ids } } → w.waiting ≡ map (touched_by (bytes_eq o.name)) mid.awaits.waiting
    → ((name : List ℕ) (e : Event) → times_in w name e ≡ times_in mid.awaits name e) → Expects d t (record mid { awaits = w })
expects-made t mid o keeps d names w is more offered others waiting times =
    let same : mid.awaits ≡ t.awaits = ap (λ (x : Tables). x.awaits) others in
    subst (λ (x : Tables). Expects d t (record x { awaits = w })) (sym others)
    (expects-opens t o keeps names mid.kept.producer_ids w (waiting ∙ ap (λ (x : Watching). map (touched_by (bytes_eq o.name)) x.waiting) same)
    (λ name e. times name e ∙ ap (λ (x : Watching). times_in x name e) same) d is more offered)

pub expects_no_more-made : (t mid : Tables) (o : Object) (keeps : Keep) (d : Due) (names : Names) (w : Watching) → d ≡ due.Opens o keeps
    → ((name : List ℕ) → times_named names name ≡ times_named t.kept.names name - one_if (bytes_eq o.name name))
    → ((router : Serial) (id : Id) → counts.times_in mid.kept.producer_ids router id ≡ counts.times_in t.kept.producer_ids router id - one_if (offers_as router id keeps))
    → mid ≡ record t { kept = record t.kept { names = names; producer_ids = mid.kept.producer_ids } } → w.waiting ≡ map (touched_by (bytes_eq o.name)) mid.awaits.waiting
    → ((name : List ℕ) (e : Event) → times_in w name e ≡ times_in mid.awaits name e) → ExpectsNoMore d t (record mid { awaits = w })
expects_no_more-made t mid o keeps d names w is less offered others waiting times =
    let same : mid.awaits ≡ t.awaits = ap (λ (x : Tables). x.awaits) others in
    subst (λ (x : Tables). ExpectsNoMore d t (record x { awaits = w })) (sym others)
    (expects_no_more-opens t o keeps names mid.kept.producer_ids w (waiting ∙ ap (λ (x : Watching). map (touched_by (bytes_eq o.name)) x.waiting) same)
    (λ name e. times name e ∙ ap (λ (x : Watching). times_in x name e) same) d is less offered)
