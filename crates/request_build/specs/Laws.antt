-- What holds of each request that is built. This project's own.
use Rattle.std.specs.Prelude.{◌≡◌, ℕ, ◌+◌, ◌≤◌, List, false, Option, Some, None, option_map, IfSome, Result, Ok}
use Rattle.serde_json.specs.Written.{has_float}
use Rattle.channel_msgs.specs.Json.{request_json}
use Rattle.ms_base.specs.Kinds.{same_kind}
use Rattle.ms_base.specs.declared.keys.Kind.TheVariants as kind
use Rattle.ms_base.specs.declared.keys.Serial.{Serial}
use Rattle.object_tree.specs.declared.object.Object.{Object}
use Rattle.object_tree.specs.Objects.{AreInOrder, numbered}
use Rattle.request_build.specs.declared.built.BuildFault.{BuildFault}
use Rattle.request_build.specs.declared.built.Draws.{Draws}
use Rattle.request_build.specs.Asks.{Built, Ask, Request}
use Rattle.request_build.specs.Keeps.{KeepsFor, KeepsWhatItDraws}
use Rattle.request_build.specs.Known.{HasFew, HaveFew, Known}

-- no number of its payload is held as a float, whatever id it is issued with
abbrev pub HasNoFloat : Request → Type 0
HasNoFloat r = (id : ℕ) → has_float (request_json (record { id = id; method = r.method; ids = r.ids; content = r.content })) ≡ false

-- One serial, which a new object has, and at most sixteen SSRCs.
pub record DrawsOne (o : Object) (before after : Draws) : Type 0 where
  pub own : o.serial.0 ≡ before.serial
  pub seed : after.seed ≡ before.seed
  pub serial : after.serial ≡ before.serial + 1
  pub rising : before.ssrc ≤ after.ssrc
  pub few : after.ssrc ≤ before.ssrc + 16

-- nothing is drawn where nothing is made
abbrev pub DrawsFor : Option Object → Draws → Draws → Type 0
DrawsFor None before after = after ≡ before
DrawsFor (Some o) before after = DrawsOne o before after

-- What is new stands on the object that its request is issued under, and is in the same Worker, but is none. It is open,
-- isn't running, and has no far end.
pub record IsNewUnder (objects : List Object) (under : Serial) (o : Object) : Type 0 where
  pub parent : o.parent ≡ Some under
  pub worker : AreInOrder objects → option_map (λ p. p.worker) (numbered objects under) ≡ Some o.worker
  pub kind : same_kind o.kind kind.Worker ≡ false
  pub opens : o.closed ≡ None
  pub waits : o.running ≡ false
  pub alone : o.far ≡ None

-- All of these.
pub record IsSound (k : Known) (r : Request) : Type 0 where
  pub whole : HasNoFloat r
  pub drawn : HaveFew k.producers k.consumers → DrawsFor r.makes k.next r.next
  pub few : HaveFew k.producers k.consumers → HasFew r.keeps
  pub new : IfSome r.makes (IsNewUnder k.objects r.under)
  pub kept : KeepsFor r.makes r.keeps
  pub ssrcs : KeepsWhatItDraws k.next r.next r.keeps

-- if it is a request at all
pub record IsSoundIfAsked (k : Known) (x : Result Built BuildFault) : Type 0 where
  pub if_asked : (request : Request) → x ≡ Ok (Ask request) → IsSound k request
