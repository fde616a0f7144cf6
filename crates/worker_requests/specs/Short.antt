-- What of a value keeps a payload short: JSON writes the text of an address as it is, and the text has few characters. Each
-- tuple of the code is such a one.
use Rattle.std.specs.Prelude.{◌≡◌, ◌^◌, ◌<◌, ◌≤◌, length, Result, Ok, Err, ⊤}
use Rattle.json.specs.Print.{escape}
use Rattle.ms_base.specs.Id.{id_text}
use Rattle.ms_base.specs.Words.{ip_text}
use Rattle.ms_base.specs.declared.id.Id.{Id}
use Rattle.ms_base.specs.declared.tuple.Tuple.{Tuple}
use Rattle.worker_requests.specs.declared.accepted.Accepted.{Accepted}
use Rattle.worker_requests.specs.declared.accepted.Accepted.TheVariants.{Local, Remote}
use Rattle.worker_requests.specs.declared.notice.WorkerNotice.{WorkerNotice}
use Rattle.worker_requests.specs.declared.notice.WorkerNotice.TheVariants.{Running, ProducerClosed, ProducerPaused, ProducerResumed, TupleLearnt}
use Rattle.worker_requests.specs.declared.refusal.Refusal.{Refusal}

pub record IsShort (tuple : Tuple) : Type 0 where
  pub address : length (ip_text tuple.ip) ≤ 15
  pub plain : escape (ip_text tuple.ip) ≡ ip_text tuple.ip
  pub port : tuple.port < 2 ^ 16

abbrev pub HasShort : Accepted → Type 0
HasShort (Local tuple) = IsShort tuple
HasShort (Remote tuple) = IsShort tuple
HasShort other = ⊤

abbrev pub TellsShort : Result Accepted Refusal → Type 0
TellsShort (Ok told) = HasShort told
TellsShort (Err why) = ⊤

abbrev pub IsShortId : Id → Type 0
IsShortId id = length (id_text id.0) ≤ 36

abbrev pub NotesShort : WorkerNotice → Type 0
NotesShort Running = ⊤
NotesShort (ProducerClosed id) = IsShortId id
NotesShort (ProducerPaused id) = IsShortId id
NotesShort (ProducerResumed id) = IsShortId id
NotesShort (TupleLearnt id tuple) = IsShortId id × IsShort tuple
