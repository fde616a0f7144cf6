-- What a worker says of what it has done: replies and notices. This project's own, after mediasoup's.
use Rattle.std.specs.Prelude.{◌≡◌, ℕ, ◌≤◌, List, ◌++◌, take, drop, Bool, nat_lt, length, codes, if◌then◌else◌, Option, Some, None, Result, Ok, Err}
use Rattle.serde_json.specs.Data.{Data, unsigned, boolean, number, string, object, member, no_members}
use Rattle.serde_json.specs.Written.{compact_text}
use Rattle.ms_base.specs.Id.{id_text}
use Rattle.ms_base.specs.Words.{ip_text}
use Rattle.ms_base.specs.declared.id.Id.{Id}
use Rattle.ms_base.specs.declared.tuple.Tuple.{Tuple}
use Rattle.channel_msgs.specs.Json.{reply_json, notice_json}
use Rattle.channel_msgs.specs.View.{AnswerView, accepted, refused, NoticeView}
use Rattle.rtp_params.specs.declared.params.Params.{Params}
use Rattle.worker_requests.specs.declared.accepted.Accepted.{Accepted}
use Rattle.worker_requests.specs.declared.accepted.Accepted.TheVariants.{Done, Local, Remote, Produced, Consumed}
use Rattle.worker_requests.specs.declared.notice.WorkerNotice.{WorkerNotice}
use Rattle.worker_requests.specs.declared.notice.WorkerNotice.TheVariants.{Running, ProducerClosed, ProducerPaused, ProducerResumed, TupleLearnt}
use Rattle.worker_requests.specs.declared.refusal.Refusal.{Refusal}
use Rattle.worker_requests.specs.Refusals.{code_of, error_of}

-- the member `tuple`: an address and a port, under these names
abbrev pub tuple_content : List ℕ → List ℕ → Tuple → Data
tuple_content ip port tuple =
    object (member (codes "tuple") (object (member ip (string (ip_text tuple.ip)) (member port (number (unsigned tuple.port)) no_members))) no_members)

abbrev pub local_content : Tuple → Data
local_content tuple = tuple_content (codes "localIp") (codes "localPort") tuple

abbrev pub remote_content : Tuple → Data
remote_content tuple = tuple_content (codes "remoteIp") (codes "remotePort") tuple

-- ---- replies

abbrev pub type_text : Bool → List ℕ
type_text simulcast = if simulcast then codes "simulcast" else codes "simple"

abbrev pub accepted_content : Accepted → Option Data
accepted_content Done = None
accepted_content (Local tuple) = Some (local_content tuple)
accepted_content (Remote tuple) = Some (remote_content tuple)
accepted_content (Produced simulcast) = Some (object (member (codes "type") (string (type_text simulcast)) no_members))
accepted_content (Consumed paused producer_paused) =
    Some (object (member (codes "paused") (boolean paused) (member (codes "producerPaused") (boolean producer_paused) no_members)))

abbrev pub answer_of : Result Accepted Refusal → AnswerView
answer_of (Ok told) = accepted (accepted_content told)
answer_of (Err why) = refused (error_of why) (code_of why)

-- the payload of the reply that gives this answer to the request of this id
abbrev pub answer_payload : ℕ → Result Accepted Refusal → List ℕ
answer_payload id answer = compact_text (reply_json (record { id = id; answer = answer_of answer }))

-- with several encodings a Producer is one of simulcast
abbrev pub produced : Params → Accepted
produced params = Produced (nat_lt 1 (length params.encodings))

-- ---- notices

abbrev pub of_object : Id → List ℕ → Option Data → NoticeView
of_object id event content = record { target = id_text id.0; event = event; content = content }

abbrev pub notice_of : WorkerNotice → NoticeView
notice_of Running = record { target = codes "worker"; event = codes "running"; content = None }
notice_of (ProducerClosed consumer) = of_object consumer (codes "producerclose") None
notice_of (ProducerPaused consumer) = of_object consumer (codes "producerpause") None
notice_of (ProducerResumed consumer) = of_object consumer (codes "producerresume") None
notice_of (TupleLearnt transport tuple) = of_object transport (codes "tuple") (Some (remote_content tuple))

abbrev pub notice_payload : WorkerNotice → List ℕ
notice_payload notice = compact_text (notice_json (notice_of notice))

-- how long what is said can be: the longest is the notice of a tuple
abbrev pub max_said : ℕ
max_said = 134

-- the bytes were put at a place behind what stands before it, and those from the new place on are as they were
pub record Puts (bytes old new : List ℕ) (at end : ℕ) : Type 0 where
  pub front : take end new ≡ take at old ++ bytes
  pub behind : drop end new ≡ drop end old
  pub order : at ≤ end
