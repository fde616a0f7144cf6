-- What is kept of open objects, with what is to be kept of those that requests are still to make. This project's own.
use Rattle.std.specs.Prelude.{◌≡◌, ◌≤◌, ℕ, ◌+◌, List, [], ◌++◌, length, count_by, flat_map, Bool, ◌&&◌, ◌==◌, is_some}
use Rattle.std.specs.List.{list_any, range_with_len}
use Rattle.ms_base.specs.Kinds.{same_kind}
use Rattle.ms_base.specs.declared.keys.Kind.{Kind}
use Rattle.ms_base.specs.declared.keys.Kind.TheVariants as kind
use Rattle.ms_base.specs.declared.keys.Serial.{Serial}
use Rattle.object_tree.specs.declared.object.Object.{Object}
use Rattle.object_tree.specs.Objects.{has_serial, is_open}
use Rattle.request_build.specs.Keeps.{ssrcs_kept}
use Rattle.request_build.specs.Known.{kept_at}
use Rattle.request_build.specs.declared.built.Keep.TheVariants as keep
use Rattle.host_model.specs.declared.due.Due.{Due}
use Rattle.host_model.specs.declared.due.Due.TheVariants as due
use Rattle.host_model.specs.Drawn.{is_between}
use Rattle.host_model.specs.Fit.{one_if}
use Rattle.host_model.specs.State.{State, Issued, Tables, first_ssrc, waiting}

-- ---- SSRCs

-- those of all that is kept
abbrev pub ssrcs_in : Tables → List ℕ
ssrcs_in t = flat_map (λ e. ssrcs_kept (keep.Producer e.1)) t.producers ++ flat_map (λ e. ssrcs_kept (keep.Consumer e.1)) t.consumers

-- those of what a request is to make
abbrev pub ssrcs_due : Due → List ℕ
ssrcs_due (due.Opens object keeps) = ssrcs_kept keeps
ssrcs_due (due.Turns paused) = []
ssrcs_due due.Nothing = []

-- those of all that is kept, and of all that requests without a settlement are to make
abbrev pub ssrcs_held : State → List ℕ
ssrcs_held s = ssrcs_in s.tables ++ flat_map (λ r. ssrcs_due r.due) (waiting s.requests)

-- no SSRC is held twice, and none that was not drawn
abbrev pub EachHeldOnce : State → Type 0
EachHeldOnce s = (n : ℕ) → count_by (λ m. m == n) (ssrcs_held s) ≤ one_if (is_between first_ssrc s.next.ssrc n)

-- those of all that requests ever were to make, in order of issue
abbrev pub ssrcs_asked : List Issued → List ℕ
ssrcs_asked requests = flat_map (λ r. ssrcs_due r.request.due) requests

-- The SSRCs that were drawn are those of what requests were to make, in order of issue: numbers in a row from the first one on.
pub record AreAskedInARow (s : State) : Type 0 where
  pub row : ssrcs_asked s.requests ≡ range_with_len first_ssrc (length (ssrcs_asked s.requests))
  pub next : s.next.ssrc ≡ first_ssrc + length (ssrcs_asked s.requests)

-- ---- open objects

-- an open object of this kind has this serial
abbrev pub is_open_of : Kind → List Object → Serial → Bool
is_open_of of_kind objects serial = list_any (λ o. has_serial serial o && (is_open o && same_kind o.kind of_kind)) objects

-- at each serial something is kept exactly where an open object of this kind has it
abbrev pub IsKeptOf : {A : Type 0} → Kind → List Object → List (ℕ × A) → Type 0
IsKeptOf of_kind objects table = (serial : Serial) → is_some (kept_at table serial) ≡ is_open_of of_kind objects serial

-- What is kept is of the open objects, and of each of them: of a Router, a Producer, a Consumer and an end of a pipe.
pub record KeptOfOpen (s : State) : Type 0 where
  pub routers : IsKeptOf kind.Router s.objects s.tables.routers
  pub producers : IsKeptOf kind.Producer s.objects s.tables.producers
  pub consumers : IsKeptOf kind.Consumer s.objects s.tables.consumers
  pub pipes : IsKeptOf kind.Pipe s.objects s.tables.pipes
