-- Worked rows for methods, contents, replies and notices, which compute.
use Rattle.std.specs.Prelude.{◌≡◌, ℕ, List, [], ◌∷◌, true, false, codes, Option, Some, None, Ok, Err, refl}
use Rattle.std.specs.Fmt.{digits}
use Rattle.std.specs.Net.Reader.{read_ipv4, read_octet, read_number}
use Rattle.serde_json.proofs.OnLiterals.{serde_json_on_literals}
use Rattle.serde_json.specs.Data.{Data, unsigned, boolean, number, string, object, member, no_members}
use Rattle.ms_base.specs.Id.{id_bytes, id_text}
use Rattle.ms_base.specs.declared.id.Id.{Id}
use Rattle.ms_base.specs.declared.tuple.Tuple.{Tuple}
use Rattle.channel_msgs.specs.View.{RequestView}
use Rattle.channel_msgs.specs.declared.message.Ids.{Ids}
use Rattle.rtp_params.specs.Reading.{number_of}
use Rattle.worker_requests.specs.declared.accepted.Accepted.TheVariants.{Local, Produced}
use Rattle.worker_requests.specs.declared.asked.Asked.TheVariants as asked
use Rattle.worker_requests.specs.declared.notice.WorkerNotice.TheVariants.{TupleLearnt}
use Rattle.worker_requests.specs.declared.refusal.Refusal.TheVariants as refusal
use Rattle.worker_requests.specs.Methods.{asked_of, methods, transport_ids, producer_ids, consumer_ids}
use Rattle.worker_requests.specs.Contents.{plain_in, plain_content, pipe_in, pipe_content, connect_in, connect_content}
use Rattle.worker_requests.specs.Said.{answer_payload, notice_payload}

-- ---- methods

abbrev id : ℕ → Id
id n = record { 0 = id_bytes 7 n }

abbrev ids : Option Id → Ids
ids consumer = record { router = Some (id 1); transport = Some (id 2); producer = Some (id 3); consumer = consumer }

abbrev request : List ℕ → Option Id → RequestView
request method consumer = record { id = 1; method = method; ids = ids consumer; content = None }

-- ids that the row doesn't name may be there
closes : asked_of (request (codes "transport.close") None) ≡ Ok (asked.CloseTransport (record { router = id 1; transport = id 2 }))
unfolding methods transport_ids
closes = refl

resumes : asked_of (request (codes "consumer.resume") (Some (id 4)))
    ≡ Ok (asked.ResumeConsumer (record { router = id 1; transport = id 2; producer = id 3; consumer = id 4 }))
unfolding methods transport_ids producer_ids consumer_ids
resumes = refl

lacks-an-id : asked_of (request (codes "transport.consume") None) ≡ Err refusal.Internal
unfolding methods transport_ids producer_ids consumer_ids
lacks-an-id = refl

-- the method is looked up first
no-method : asked_of (record { id = 1; method = codes "router.open"; ids = record { router = None; transport = None; producer = None; consumer = None }; content = None })
    ≡ Err refusal.Method
unfolding methods
no-method = refl

-- ---- contents of transports

abbrev listen_ip : List ℕ → Data
listen_ip text = object (member (codes "ip") (string text) no_members)

abbrev plain : Data → Data → Option Data
plain ip mux = Some (object (member (codes "comedia") (boolean true) (member (codes "listenIp") ip (member (codes "rtcpMux") mux no_members))))

plain-row : plain_content (plain (listen_ip (codes "192.0.2.1")) (boolean true)) ≡ Some (record { comedia = true; ip = 192 ∷ 0 ∷ 2 ∷ 1 ∷ [] })
unfolding plain_in read_ipv4 read_octet read_number
plain-row = refl

no-mux : plain_content (plain (listen_ip (codes "192.0.2.1")) (boolean false)) ≡ None
unfolding plain_in read_ipv4 read_octet read_number
no-mux = refl

leading-zero : plain_content (plain (listen_ip (codes "192.0.02.1")) (boolean true)) ≡ None
unfolding plain_in read_ipv4 read_octet read_number
leading-zero = refl

-- there is no default
no-rtx : pipe_content (Some (object (member (codes "listenIp") (listen_ip (codes "192.0.2.1")) no_members))) ≡ None
unfolding pipe_in
no-rtx = refl

abbrev connect : ℕ → Option Data
connect port = Some (object (member (codes "ip") (string (codes "192.0.2.1")) (member (codes "port") (number (unsigned port)) no_members)))

connect-row : connect_content (connect 65535) ≡ Some (record { ip = 192 ∷ 0 ∷ 2 ∷ 1 ∷ []; port = 65535 })
unfolding connect_in number_of read_ipv4 read_octet read_number
connect-row = refl

port-0 : connect_content (connect 0) ≡ None
unfolding connect_in number_of read_ipv4 read_octet read_number
port-0 = refl

-- ---- replies and notices

abbrev tuple : Tuple
tuple = record { ip = 127 ∷ 0 ∷ 0 ∷ 1 ∷ []; port = 40000 }

local-row : answer_payload 2 (Ok (Local tuple)) ≡ codes "{\"accepted\":true,\"data\":{\"tuple\":{\"localIp\":\"127.0.0.1\",\"localPort\":40000}},\"id\":2}"
unfolding digits serde_json_on_literals
local-row = refl

simulcast-row : answer_payload 4 (Ok (Produced true)) ≡ codes "{\"accepted\":true,\"data\":{\"type\":\"simulcast\"},\"id\":4}"
unfolding digits serde_json_on_literals
simulcast-row = refl

state-row : answer_payload 3 (Err refusal.State) ≡ codes "{\"error\":\"Error\",\"id\":3,\"reason\":\"state\"}"
unfolding digits serde_json_on_literals
state-row = refl

tuple-row : notice_payload (TupleLearnt (id 3) tuple)
    ≡ codes "{\"data\":{\"tuple\":{\"remoteIp\":\"127.0.0.1\",\"remotePort\":40000}},\"event\":\"tuple\",\"targetId\":\"00000000-0000-4007-8000-000000000003\"}"
unfolding digits serde_json_on_literals id_bytes id_text
tuple-row = refl
