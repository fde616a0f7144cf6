-- Worked rows: options, and what they are read as.
use Rattle.std.specs.Prelude.{◌≡◌, ℕ, List, [], ◌∷◌, true, false, codes, replicate, Some, None, Ok, Err, refl}
use Rattle.std.specs.Net.Reader.{read_ipv4, read_octet, read_number}
use Rattle.serde_json.specs.Data.{Data, null, boolean, string}
use Rattle.ms_base.specs.Id.{id_of_text, is_id_text}
use Rattle.ms_base.specs.declared.code.Code.TheVariants as code
use Rattle.ms_base.specs.declared.keys.Media.TheVariants.{Audio}
use Rattle.rtp_params.specs.declared.codec.Codec.{Codec}
use Rattle.rtp_params.specs.declared.params.Params.{Params}
use Rattle.rtp_params.specs.Codecs.{mime_type_in, codec_in}
use Rattle.rtp_params.specs.Encodings.{encoding_in}
use Rattle.rtp_params.specs.ReadRows.{an_object, a_list}
use Rattle.rtp_params.specs.Reading.{number_of}
use Rattle.rtp_params.specs.Whole.{rtcp_in, params_in, caps_in}
use Rattle.rtp_params.specs.Writing.{number_value}
use Rattle.call_options.specs.declared.fault.OptionFault.TheVariants.{Unsupported, TypeError}
use Rattle.call_options.specs.Limits.{router_fits, params_fit}
use Rattle.call_options.specs.Options.{router_in, router_of, plain_in, plain_of, if_shared, pipe_in, pipe_of, connect_in, connect_of, produce_in, produce_of, consume_in, consume_of, paused_of}

-- ---- transports

abbrev ip : List ℕ × Data
ip = (codes "ip", string (codes "192.0.2.1"))

abbrev octets : List ℕ
octets = 192 ∷ 0 ∷ 2 ∷ 1 ∷ []

connect_row : connect_of (an_object (ip ∷ (codes "port", number_value 5004) ∷ [])) ≡ Ok (record { ip = octets; port = 5004 })
unfolding read_ipv4 read_octet read_number connect_in number_of
connect_row = refl

port_0 : connect_of (an_object (ip ∷ (codes "port", number_value 0) ∷ [])) ≡ Err code.Form
unfolding read_ipv4 read_octet read_number connect_in number_of
port_0 = refl

no_ip : connect_of (an_object ((codes "port", number_value 5004) ∷ [])) ≡ Err code.Form
unfolding connect_in
no_ip = refl

leading_zero : connect_of (an_object ((codes "ip", string (codes "192.0.2.01")) ∷ (codes "port", number_value 5004) ∷ [])) ≡ Err code.Form
unfolding read_ipv4 read_octet read_number connect_in
leading_zero = refl

abbrev as_text : List ℕ × Data
as_text = (codes "listenIp", string (codes "192.0.2.1"))

abbrev as_object : List ℕ × Data
as_object = (codes "listenIp", an_object (ip ∷ []))

plain_row : if_shared (plain_of (an_object (as_text ∷ []))) ≡ Ok (record { listen_ip = octets; comedia = false })
unfolding read_ipv4 read_octet read_number plain_in
plain_row = refl

plain_object : if_shared (plain_of (an_object ((codes "comedia", boolean true) ∷ as_object ∷ []))) ≡ Ok (record { listen_ip = octets; comedia = true })
unfolding read_ipv4 read_octet read_number plain_in
plain_object = refl

two_ports : if_shared (plain_of (an_object (as_text ∷ (codes "rtcpMux", boolean false) ∷ []))) ≡ Err (Unsupported code.Mux)
unfolding read_ipv4 read_octet read_number plain_in
two_ports = refl

-- a `null` is no want of the member, and a fault of the form comes before two ports
null_comedia : if_shared (plain_of (an_object ((codes "comedia", null) ∷ as_text ∷ (codes "rtcpMux", boolean false) ∷ []))) ≡ Err (TypeError code.Form)
unfolding read_ipv4 read_octet read_number plain_in
null_comedia = refl

pipe_row : pipe_of (an_object ((codes "enableRtx", boolean true) ∷ as_object ∷ [])) ≡ Ok (record { listen_ip = octets; enable_rtx = true })
unfolding read_ipv4 read_octet read_number pipe_in
pipe_row = refl

pipe_alone : pipe_of (an_object (as_text ∷ [])) ≡ Ok (record { listen_ip = octets; enable_rtx = false })
unfolding read_ipv4 read_octet read_number pipe_in
pipe_alone = refl

-- ---- Producers

abbrev opus_value : Data
opus_value = an_object ((codes "clockRate", number_value 48000) ∷ (codes "mimeType", string (codes "audio/opus")) ∷ (codes "payloadType", number_value 100) ∷ [])

abbrev opus : Codec
opus = record { media = Audio; name = codes "opus"; payload_type = Some 100; clock_rate = 48000; channels = Some 1; parameters = []; feedback = [] }

-- parameters of these codecs and these encodings
abbrev params_value : List Data → List Data → List ℕ × Data
params_value codecs encodings = (codes "rtpParameters", an_object ((codes "codecs", a_list codecs) ∷ (codes "encodings", a_list encodings) ∷ []))

abbrev kind : List ℕ → List ℕ × Data
kind text = (codes "kind", string text)

abbrev stream : List Data
stream = an_object ((codes "ssrc", number_value 7) ∷ []) ∷ []

abbrev params : Params
params = record { codecs = opus ∷ []; exts = []; encodings = record { ssrc = 7; rtx = None } ∷ []; cname = []; reduced_size = true }

produce_row : produce_of (an_object (kind (codes "audio") ∷ params_value (opus_value ∷ []) stream ∷ []))
    ≡ Ok (record { media = Audio; params = params; paused = false; id = None })
unfolding produce_in params_in codec_in mime_type_in encoding_in rtcp_in number_of
produce_row = refl

other_kind : produce_of (an_object (kind (codes "video") ∷ params_value (opus_value ∷ []) stream ∷ [])) ≡ Err code.Kind
unfolding produce_in params_in codec_in mime_type_in encoding_in rtcp_in number_of
other_kind = refl

no_kind : produce_of (an_object (params_value [] [] ∷ [])) ≡ Err code.Form
unfolding produce_in
no_kind = refl

-- the first fault of form or SSRC counts, then a limit, and then the kind
first_ssrc : produce_of (an_object (kind (codes "data") ∷ (codes "paused", null) ∷ params_value [] (an_object [] ∷ []) ∷ [])) ≡ Err code.Ssrc
unfolding produce_in params_in encoding_in
first_ssrc = refl

then_form : produce_of (an_object (kind (codes "data") ∷ (codes "paused", null) ∷ params_value [] [] ∷ [])) ≡ Err code.Form
unfolding produce_in params_in rtcp_in
then_form = refl

then_limits : produce_of (an_object (kind (codes "data") ∷ params_value [] [] ∷ [])) ≡ Err code.Many
unfolding produce_in params_in rtcp_in
then_limits = refl

then_kind : produce_of (an_object (kind (codes "data") ∷ params_value (opus_value ∷ []) stream ∷ [])) ≡ Err code.Kind
unfolding produce_in params_in codec_in mime_type_in encoding_in rtcp_in number_of
then_kind = refl

an_id : produce_of (an_object ((codes "id", string (codes "00000000-0000-4000-8000-0000000000AB")) ∷ kind (codes "audio") ∷ params_value (opus_value ∷ []) stream ∷ []))
    ≡ Ok (record { media = Audio; params = params; paused = false; id = Some (record { 0 = 0 ∷ 0 ∷ 0 ∷ 0 ∷ 0 ∷ 0 ∷ 64 ∷ 0 ∷ 128 ∷ 0 ∷ 0 ∷ 0 ∷ 0 ∷ 0 ∷ 0 ∷ 171 ∷ [] }) })
unfolding produce_in params_in codec_in mime_type_in encoding_in rtcp_in number_of id_of_text is_id_text
an_id = refl

-- ---- Routers and Consumers

router_row : router_of (an_object ((codes "mediaCodecs", a_list (opus_value ∷ [])) ∷ [])) ≡ Ok (record opus { payload_type = None } ∷ [])
unfolding router_in caps_in codec_in mime_type_in number_of
router_row = refl

router_of_none : router_of (an_object ((codes "mediaCodecs", a_list []) ∷ [])) ≡ Ok []
unfolding router_in caps_in
router_of_none = refl

no_codecs : router_of (an_object []) ≡ Err code.Form
unfolding router_in
no_codecs = refl

consume_row : consume_of (an_object ((codes "paused", boolean true) ∷ (codes "rtpCapabilities", an_object []) ∷ []))
    ≡ Ok (record { caps = record { codecs = []; exts = [] }; paused = true })
unfolding consume_in caps_in
consume_row = refl

over_a_pipe : paused_of (an_object ((codes "rtpCapabilities", null) ∷ [])) ≡ Ok false
over_a_pipe = refl

-- ---- limits

abbrev lists : ℕ → ℕ → ℕ → Params
lists codecs exts encodings =
    record params {
      codecs = replicate codecs opus;
      exts = replicate exts (record { media = None; uri = codes "u"; id = 1; sends = true });
      encodings = replicate encodings (record { ssrc = 7; rtx = None });
    }

most : params_fit (lists 32 32 8) ≡ true
most = refl

nine_encodings : params_fit (lists 32 32 9) ≡ false
nine_encodings = refl

no_encodings : params_fit (lists 1 0 0) ≡ false
no_encodings = refl

more_codecs : params_fit (lists 33 0 1) ≡ false
more_codecs = refl

more_exts : params_fit (lists 1 33 1) ≡ false
more_exts = refl

router_most : router_fits (replicate 32 opus) ≡ true
router_most = refl

router_more : router_fits (replicate 33 opus) ≡ false
router_more = refl
