-- What a call is answered from: the objects, what is kept of the open ones, what pending calls are to make, and what is
-- drawn next. This project's own.
use Rattle.std.specs.Prelude.{◌≡◌, ℕ, ◌<◌, ◌≤◌, ◌^◌, ⊤, List, [], length, Bool, false, nat_lt, Option, option_and_then}
use Rattle.std.specs.BTreeMap.{insert_entry, is_at}
use Rattle.std.specs.Map.{lookup, remove_entry}
use Rattle.std.specs.Ordering.{nat_cmp}
use Rattle.ms_base.specs.declared.id.Id.{Id}
use Rattle.ms_base.specs.declared.keys.Serial.{Serial}
use Rattle.object_tree.specs.declared.object.Object.{Object}
use Rattle.object_tree.specs.Objects.{numbered}
use Rattle.rtp_params.specs.declared.params.Caps.{Caps}
use Rattle.rtp_params.specs.declared.params.Params.{Params}
use Rattle.rtp_params.specs.Readable.{Each}
use Rattle.request_build.specs.declared.kept.Kept.{Kept}
use Rattle.request_build.specs.declared.built.Draws.{Draws}
use Rattle.request_build.specs.declared.built.Keep.{Keep}
use Rattle.request_build.specs.declared.built.Keep.TheVariants as keep
use Rattle.request_build.specs.declared.built.Offer.{Offer}
use Rattle.request_build.specs.Counts.{times_in, times_named}

pub record Known : Type 0 where
  -- open and closed
  pub objects : List Object
  -- of open objects, under their serials: a Router's codecs, what a Producer offers, what a Consumer
  -- receives, whether an end of a pipe retransmits
  pub routers : List (ℕ × Caps)
  pub producers : List (ℕ × Offer)
  pub consumers : List (ℕ × Params)
  pub pipes : List (ℕ × Bool)
  -- a pending call is to make an object of this name
  pub is_named : List ℕ → Bool
  -- a pending request is to make a Producer of this id in this Router
  pub is_asked : Serial → Id → Bool
  -- how many slots were made
  pub slots : ℕ
  -- the host was stopped
  pub stopped : Bool
  pub next : Draws

-- what the tables of the code tell
abbrev pub known_of : List Object → Kept → Draws → Known
known_of objects kept next =
    record {
      objects = objects;
      routers = kept.routers;
      producers = kept.producers;
      consumers = kept.consumers;
      pipes = kept.pipes;
      is_named = λ name. nat_lt 0 (times_named kept.names name);
      is_asked = λ router id. nat_lt 0 (times_in kept.producer_ids router id);
      slots = kept.slots;
      stopped = kept.stopped;
      next = next;
    }

-- The tables themselves, of which a call is built.
pub record Source : Type 0 where
  pub objects : List Object
  pub kept : Kept
  pub next : Draws

abbrev pub known : Source → Known
known source = known_of source.objects source.kept source.next

-- nothing is kept, and nothing is pending
pub record KeepsNothing (kept : Kept) : Type 0 where
  pub routers : kept.routers ≡ []
  pub producers : kept.producers ≡ []
  pub consumers : kept.consumers ≡ []
  pub pipes : kept.pipes ≡ []
  pub names : (name : List ℕ) → times_named kept.names name ≡ 0
  pub producer_ids : (router : Serial) (id : Id) → times_in kept.producer_ids router id ≡ 0
  pub slots : kept.slots ≡ 0
  pub running : kept.stopped ≡ false

-- what is kept at a serial
abbrev pub kept_at : {A : Type 0} → List (ℕ × A) → Serial → Option A
kept_at table serial = lookup (is_at (nat_cmp serial.0)) table

-- the object that another stands on
abbrev pub above : List Object → Object → Option Object
above objects o = option_and_then (numbered objects) o.parent

-- the Router of a Producer or a Consumer: that of its transport
abbrev pub router_of : List Object → Object → Option Serial
router_of objects stream = option_and_then (λ transport. transport.parent) (above objects stream)

-- what is kept of an object that has opened
abbrev pub with_kept : Serial → Keep → Kept → Kept
with_kept serial (keep.Router caps) kept = record kept { routers = insert_entry nat_cmp kept.routers serial.0 caps }
with_kept serial (keep.Producer offer) kept = record kept { producers = insert_entry nat_cmp kept.producers serial.0 offer }
with_kept serial (keep.Consumer params) kept = record kept { consumers = insert_entry nat_cmp kept.consumers serial.0 params }
with_kept serial (keep.Pipe enable_rtx) kept = record kept { pipes = insert_entry nat_cmp kept.pipes serial.0 enable_rtx }
with_kept serial keep.Nothing kept = kept

abbrev pub gone : {A : Type 0} → Serial → List (ℕ × A) → List (ℕ × A)
gone serial table = remove_entry (is_at (nat_cmp serial.0)) table

-- nothing is kept of one that has closed
abbrev pub without : Serial → Kept → Kept
without serial kept =
    record kept {
      routers = gone serial kept.routers;
      producers = gone serial kept.producers;
      consumers = gone serial kept.consumers;
      pipes = gone serial kept.pipes;
    }

-- what is kept has no more encodings than the limit
abbrev pub HasFew : Keep → Type 0
HasFew (keep.Router caps) = ⊤
HasFew (keep.Producer offer) = length offer.params.encodings ≤ 8
HasFew (keep.Consumer params) = length params.encodings ≤ 8
HasFew (keep.Pipe enable_rtx) = ⊤
HasFew keep.Nothing = ⊤

-- no Producer and no Consumer has more encodings than the limit
pub record HaveFew (offered : List (ℕ × Offer)) (received : List (ℕ × Params)) : Type 0 where
  pub producers : Each (λ e. length e.1.params.encodings ≤ 8) offered
  pub consumers : Each (λ e. length e.1.encodings ≤ 8) received

abbrev pub IsKept : Kept → Type 0
IsKept kept = HaveFew kept.producers kept.consumers

-- a seed has 60 bits, and serials and SSRCs have 32 when a call has drawn as many as it may
pub record IsDrawn (next : Draws) : Type 0 where
  pub seed : next.seed < 2 ^ 60
  pub serial : 1 ≤ next.serial
  pub last_serial : next.serial ≤ 4294967294
  pub last_ssrc : next.ssrc ≤ 4294967279

pub record IsKnown (kept : Kept) (next : Draws) : Type 0 where
  pub few : IsKept kept
  pub fits : IsDrawn next
