-- What is kept stays within the limit on encodings.
use Rattle.std.proofs.Common.{◌≤◌, ℕ, List, [], ◌∷◌, length, Bool, true, false, cond, Less, Equal, Greater, Ordering}
use Rattle.std.specs.BTreeMap.{insert_entry, is_at}
use Rattle.std.specs.Map.{remove_entry}
use Rattle.std.specs.Ordering.{match_ordering, nat_cmp}
use Rattle.ms_base.specs.declared.keys.Serial.{Serial}
use Rattle.rtp_params.specs.Readable.{Each}
use Rattle.request_build.specs.declared.built.Keep.{Keep}
use Rattle.request_build.specs.declared.built.Keep.TheVariants as keep
use Rattle.request_build.specs.Known.{HasFew, HaveFew}
use Rattle.host_model.specs.State.{Tables}
use Rattle.host_model.specs.Changes.{with_kept, without}
use Rattle.host_model.specs.Falls.{all_without}

module _ {A : Type 0} (P : A → Type 0) where
  abbrev AllFew : List (ℕ × A) → Type 0
  AllFew table = Each (λ e. P e.1) table

  placed : (o : Ordering) (before in_place behind : List (ℕ × A)) → AllFew before → AllFew in_place → AllFew behind → AllFew (match_ordering o before in_place behind)
  placed Less before in_place behind b i a = b
  placed Equal before in_place behind b i a = i
  placed Greater before in_place behind b i a = a

  inserted : (table : List (ℕ × A)) (n : ℕ) (v : A) → AllFew table → P v → AllFew (insert_entry nat_cmp table n v)
  inserted [] n v all one = (one, tt)
  inserted (e ∷ es) n v all one =
      placed (nat_cmp n e.0) ((n, v) ∷ e ∷ es) ((e.0, v) ∷ es) (e ∷ insert_entry nat_cmp es n v) (one, all) (one, all.1) (all.0, inserted es n v all.1 one)

  chosen : (b : Bool) (xs ys : List (ℕ × A)) → AllFew xs → AllFew ys → AllFew (cond b xs ys)
  chosen true xs ys x y = x
  chosen false xs ys x y = y

  removed : (table : List (ℕ × A)) (test : ℕ → Bool) → AllFew table → AllFew (remove_entry test table)
  removed [] test all = tt
  removed (e ∷ es) test all = chosen (test e.0) es (e ∷ remove_entry test es) all.1 (all.0, removed es test all.1)

abbrev AreFew : Tables → Type 0
AreFew t = HaveFew t.producers t.consumers

pub few-kept : (t : Tables) (serial : Serial) (keeps : Keep) → HaveFew t.producers t.consumers → HasFew keeps → AreFew (with_kept serial keeps t)
few-kept t serial (keep.Router caps) h few = h
few-kept t serial (keep.Producer offer) h few =
    record { producers = inserted (λ o. length o.params.encodings ≤ 8) t.producers serial.0 offer h.producers few; consumers = h.consumers }
few-kept t serial (keep.Consumer params) h few =
    record { producers = h.producers; consumers = inserted (λ p. length p.encodings ≤ 8) t.consumers serial.0 params h.consumers few }
few-kept t serial (keep.Pipe enable_rtx) h few = h
few-kept t serial keep.Nothing h few = h

few-without : (t : Tables) (serial : Serial) → AreFew t → AreFew (without serial t)
few-without t serial h =
    record {
      producers = removed (λ o. length o.params.encodings ≤ 8) t.producers (is_at (nat_cmp serial.0)) h.producers;
      consumers = removed (λ p. length p.encodings ≤ 8) t.consumers (is_at (nat_cmp serial.0)) h.consumers;
    }

pub few-all_without : (serials : List Serial) (t : Tables) → HaveFew t.producers t.consumers → AreFew (all_without serials t)
few-all_without [] t h = h
few-all_without (serial ∷ serials) t h = few-all_without serials (without serial t) (few-without t serial h)
