-- Worked rows: contents, which compute.
use Rattle.std.specs.Prelude.{◌≡◌, [], ◌∷◌, true, false, codes, Some, None, refl}
use Rattle.std.specs.Fmt.{digits}
use Rattle.serde_json.proofs.OnLiterals.{serde_json_on_literals}
use Rattle.serde_json.specs.Written.{compact_text}
use Rattle.ms_base.specs.Id.{id_bytes}
use Rattle.ms_base.specs.declared.id.Id.{Id}
use Rattle.ms_base.specs.declared.keys.Media.TheVariants.{Audio}
use Rattle.rtp_params.specs.Writing.{encoding_value, params_value}
use Rattle.worker_requests.specs.declared.asked.Asked.TheVariants as asked
use Rattle.request_contents.specs.Methods.{ids_of, method_of}
use Rattle.request_contents.specs.Values.{connect_value, consume_value, direct_value, mapping_value, pipe_value, plain_value}

plain_row : compact_text (plain_value (record { comedia = false; ip = 127 ∷ 0 ∷ 0 ∷ 1 ∷ [] })) ≡ codes "{\"comedia\":false,\"listenIp\":{\"ip\":\"127.0.0.1\"},\"rtcpMux\":true}"
unfolding digits serde_json_on_literals
plain_row = refl

pipe_row : compact_text (pipe_value (record { enable_rtx = true; ip = 127 ∷ 0 ∷ 0 ∷ 1 ∷ [] })) ≡ codes "{\"enableRtx\":true,\"listenIp\":{\"ip\":\"127.0.0.1\"}}"
unfolding digits serde_json_on_literals
pipe_row = refl

direct_row : compact_text direct_value ≡ codes "{\"direct\":true}"
unfolding serde_json_on_literals
direct_row = refl

connect_row : compact_text (connect_value (record { ip = 192 ∷ 0 ∷ 2 ∷ 1 ∷ []; port = 5004 })) ≡ codes "{\"ip\":\"192.0.2.1\",\"port\":5004}"
unfolding digits serde_json_on_literals
connect_row = refl

-- a camera's VP8 and its retransmissions, and its one stream
mapping_row : compact_text (mapping_value (record { codecs = (96, 101) ∷ (97, 102) ∷ []; encodings = (2222, 100000000) ∷ [] }))
    ≡ codes "{\"codecs\":[{\"mappedPayloadType\":101,\"payloadType\":96},{\"mappedPayloadType\":102,\"payloadType\":97}],\"encodings\":[{\"mappedSsrc\":100000000,\"ssrc\":2222}]}"
unfolding digits serde_json_on_literals
mapping_row = refl

consume_row : compact_text (consume_value Audio true (record { ssrc = 5; rtx = None } ∷ []) (record { codecs = []; exts = []; encodings = record { ssrc = 7; rtx = Some 8 } ∷ []; cname = []; reduced_size = true }) true)
    ≡ codes "{\"consumableRtpEncodings\":[{\"ssrc\":5}],\"kind\":\"audio\",\"paused\":true,\"rtpParameters\":{\"codecs\":[],\"encodings\":[{\"rtx\":{\"ssrc\":8},\"ssrc\":7}],\"headerExtensions\":[],\"rtcp\":{\"cname\":\"\",\"reducedSize\":true}},\"type\":\"simple\"}"
unfolding digits serde_json_on_literals encoding_value params_value
consume_row = refl

abbrev id : Id
id = record { 0 = id_bytes 7 1 }

-- a Producer is named with those above it
ids_row : ids_of (asked.PauseProducer (record { router = id; transport = id; producer = id })) ≡ record { router = Some id; transport = Some id; producer = Some id; consumer = None }
ids_row = refl

method_row : method_of (asked.CreateDirectTransport (record { router = id; transport = id })) ≡ codes "router.createDirectTransport"
method_row = refl
