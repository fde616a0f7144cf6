-- What is said is short.
use Rattle.std.proofs.Common.{◌≡◌, ℕ, ◌^◌, ◌<◌, ◌≤◌, List, ◌++◌, length, Bool, true, false, Some, Result, Ok, Err, IfOk, codes, decimal, refl, sym, subst, arith, append_assoc}
use Rattle.std.proofs.lemmas.Fmt.{length-decimal-le}
use Rattle.std.proofs.Math.ListN.{length-append}
use Rattle.std.specs.Net.Text.{dotted_text}
use Rattle.json.specs.Print.{escape}
use Rattle.serde_json.proofs.OnLiterals.{serde_json_on_literals}
use Rattle.serde_json.specs.Data.{unsigned, number, string, object, member, no_members}
use Rattle.serde_json.specs.Written.{compact_text}
use Rattle.ms_base.specs.Id.{id_text}
use Rattle.ms_base.specs.Words.{ip_text}
use Rattle.channel_msgs.specs.Json.{reply_json}
use Rattle.channel_msgs.specs.View.{accepted}
use Rattle.worker_requests.specs.declared.accepted.Accepted.TheVariants.{Done, Local, Remote, Produced, Consumed}
use Rattle.worker_requests.specs.declared.accepted.Accepted.{Accepted}
use Rattle.worker_requests.specs.declared.notice.WorkerNotice.{WorkerNotice}
use Rattle.worker_requests.specs.declared.notice.WorkerNotice.TheVariants.{Running, ProducerClosed, ProducerPaused, ProducerResumed, TupleLearnt}
use Rattle.worker_requests.specs.declared.refusal.Refusal.{Refusal}
use Rattle.worker_requests.specs.declared.refusal.Refusal.TheVariants as refusal
use Rattle.worker_requests.specs.Said.{answer_payload, notice_payload, max_said}
use Rattle.worker_requests.specs.Short.{TellsShort, NotesShort}
use Rattle.worker_requests.proofs.TextLemmas.{id_plain, in_parts, payload_in_parts}

pub dotted_short : (a b c d : ℕ) → a < 2 ^ 8 → b < 2 ^ 8 → c < 2 ^ 8 → d < 2 ^ 8 → length (dotted_text a b c d) ≤ 15
dotted_short a b c d fa fb fc fd =
    let part : (n : ℕ) → n < 2 ^ 8 → length (decimal n) ≤ 3 = λ n small. length-decimal-le 3 n (omega arith) (omega arith) (omega arith) in
    let pa = part a fa in
    let pb = part b fb in
    let pc = part c fc in
    let pd = part d fd in
    simp length-append (omega arith)

-- ---- replies

module _ (id : ℕ) (small : id < 2 ^ 32) where
  few : length (decimal id) ≤ 10
  few = length-decimal-le 10 id (omega arith) (omega arith) (omega arith)

  -- what stands before the id, and behind it
  sized : (front back : List ℕ) → length front ≤ 100 → length back ≤ 24 → length (front ++ (decimal id ++ back)) ≤ max_said
  sized front back f b = omega (arith, length-append front (decimal id ++ back), length-append (decimal id) back, few)

  pauses_short : (p q : Bool) → length (answer_payload id (Ok (Consumed p q))) ≤ max_said
  unfolding serde_json_on_literals
  pauses_short true true = sized (codes "{\"accepted\":true,\"data\":{\"paused\":true,\"producerPaused\":true},\"id\":") (codes "}") (omega arith) (omega arith)
  pauses_short true false = sized (codes "{\"accepted\":true,\"data\":{\"paused\":true,\"producerPaused\":false},\"id\":") (codes "}") (omega arith) (omega arith)
  pauses_short false true = sized (codes "{\"accepted\":true,\"data\":{\"paused\":false,\"producerPaused\":true},\"id\":") (codes "}") (omega arith) (omega arith)
  pauses_short false false = sized (codes "{\"accepted\":true,\"data\":{\"paused\":false,\"producerPaused\":false},\"id\":") (codes "}") (omega arith) (omega arith)

  type_short : (simulcast : Bool) → length (answer_payload id (Ok (Produced simulcast))) ≤ max_said
  unfolding serde_json_on_literals
  type_short true = sized (codes "{\"accepted\":true,\"data\":{\"type\":\"simulcast\"},\"id\":") (codes "}") (omega arith) (omega arith)
  type_short false = sized (codes "{\"accepted\":true,\"data\":{\"type\":\"simple\"},\"id\":") (codes "}") (omega arith) (omega arith)

  -- the words that name the address and the port
  tuple_short : (front middle ip : List ℕ) (port : ℕ) → length front ≤ 48 → length middle ≤ 15 → length ip ≤ 15 → port < 2 ^ 16
      → length (front ++ (ip ++ (middle ++ (decimal port ++ (codes "}},\"id\":" ++ (decimal id ++ codes "}")))))) ≤ max_said
  tuple_short front middle ip port f m i p =
      let digits : length (decimal port) ≤ 5 = length-decimal-le 5 port (omega arith) (omega arith) (omega arith) in
      let own = few in
      simp length-append (omega arith)

  local_short : (ip : List ℕ) (port : ℕ) → escape ip ≡ ip → length ip ≤ 15 → port < 2 ^ 16
      → length (compact_text (reply_json (record {
        id = id;
        answer = accepted (Some (object (member (codes "tuple") (object (member (codes "localIp") (string ip) (member (codes "localPort") (number (unsigned port)) no_members))) no_members)));
      }))) ≤ max_said
  unfolding serde_json_on_literals
  local_short ip port plain i p = simp (append_assoc, plain) (tuple_short (codes "{\"accepted\":true,\"data\":{\"tuple\":{\"localIp\":\"") (codes "\",\"localPort\":") ip port (omega arith) (omega arith) i p)

  remote_short : (ip : List ℕ) (port : ℕ) → escape ip ≡ ip → length ip ≤ 15 → port < 2 ^ 16
      → length (compact_text (reply_json (record {
        id = id;
        answer = accepted (Some (object (member (codes "tuple") (object (member (codes "remoteIp") (string ip) (member (codes "remotePort") (number (unsigned port)) no_members))) no_members)));
      }))) ≤ max_said
  unfolding serde_json_on_literals
  remote_short ip port plain i p = simp (append_assoc, plain) (tuple_short (codes "{\"accepted\":true,\"data\":{\"tuple\":{\"remoteIp\":\"") (codes "\",\"remotePort\":") ip port (omega arith) (omega arith) i p)

  pub answer_short : (answer : Result Accepted Refusal) → TellsShort answer → length (answer_payload id answer) ≤ max_said
  unfolding serde_json_on_literals
  answer_short (Ok Done) h = sized (codes "{\"accepted\":true,\"id\":") (codes "}") (omega arith) (omega arith)
  answer_short (Ok (Local t)) h = local_short (ip_text t.ip) t.port h.plain h.address h.port
  answer_short (Ok (Remote t)) h = remote_short (ip_text t.ip) t.port h.plain h.address h.port
  answer_short (Ok (Produced simulcast)) h = type_short simulcast
  answer_short (Ok (Consumed p q)) h = pauses_short p q
  answer_short (Err refusal.Method) h = sized (codes "{\"error\":\"TypeError\",\"id\":") (codes ",\"reason\":\"method\"}") (omega arith) (omega arith)
  answer_short (Err refusal.Internal) h = sized (codes "{\"error\":\"TypeError\",\"id\":") (codes ",\"reason\":\"internal\"}") (omega arith) (omega arith)
  answer_short (Err refusal.Missing) h = sized (codes "{\"error\":\"Error\",\"id\":") (codes ",\"reason\":\"missing\"}") (omega arith) (omega arith)
  answer_short (Err refusal.Exists) h = sized (codes "{\"error\":\"Error\",\"id\":") (codes ",\"reason\":\"exists\"}") (omega arith) (omega arith)
  answer_short (Err refusal.Data) h = sized (codes "{\"error\":\"TypeError\",\"id\":") (codes ",\"reason\":\"data\"}") (omega arith) (omega arith)
  answer_short (Err refusal.State) h = sized (codes "{\"error\":\"Error\",\"id\":") (codes ",\"reason\":\"state\"}") (omega arith) (omega arith)
  answer_short (Err refusal.Ssrc) h = sized (codes "{\"error\":\"Error\",\"id\":") (codes ",\"reason\":\"ssrc\"}") (omega arith) (omega arith)
  answer_short (Err refusal.Link) h = sized (codes "{\"error\":\"Error\",\"id\":") (codes ",\"reason\":\"link\"}") (omega arith) (omega arith)

-- ---- notices

parts_short : (ip : List ℕ) (port : ℕ) (id : List ℕ) → length ip ≤ 15 → port < 2 ^ 16 → length id ≤ 36 → length (in_parts ip port id) ≤ max_said
parts_short ip port id i p d =
    let digits : length (decimal port) ≤ 5 = length-decimal-le 5 port (omega arith) (omega arith) (omega arith) in
    simp length-append (omega arith)

-- an event without a content
event_short : (event id : List ℕ) → length event ≤ 40 → length id ≤ 36 → length (event ++ (id ++ codes "\"}")) ≤ max_said
event_short event id e d = omega (arith, length-append event (id ++ codes "\"}"), length-append id (codes "\"}"))

pub notice_short : (n : WorkerNotice) → NotesShort n → length (notice_payload n) ≤ max_said
unfolding serde_json_on_literals
notice_short Running h = omega arith
notice_short (ProducerClosed id) h = simp (append_assoc, id_plain id.0) (event_short (codes "{\"event\":\"producerclose\",\"targetId\":\"") (id_text id.0) (omega arith) h)
notice_short (ProducerPaused id) h = simp (append_assoc, id_plain id.0) (event_short (codes "{\"event\":\"producerpause\",\"targetId\":\"") (id_text id.0) (omega arith) h)
notice_short (ProducerResumed id) h = simp (append_assoc, id_plain id.0) (event_short (codes "{\"event\":\"producerresume\",\"targetId\":\"") (id_text id.0) (omega arith) h)
notice_short (TupleLearnt id t) h =
    subst (λ (payload : List ℕ). length payload ≤ max_said) (payload_in_parts id t (id_text id.0) refl h.1.plain) (parts_short (ip_text t.ip) t.port (id_text id.0) h.1.address h.1.port h.0)

pub if_short : {E : Type 0} (r : Result (List ℕ) E) (payload : List ℕ) → IfOk r (λ bytes. bytes ≡ payload) → length payload ≤ max_said → IfOk r (λ bytes. length bytes ≤ max_said)
if_short (Ok bytes) payload is h = subst (λ (xs : List ℕ). length xs ≤ max_said) (sym is) h
if_short (Err e) payload is h = tt
