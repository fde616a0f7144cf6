-- Worked rows: contents and notices, and what is read of them.
use Rattle.std.specs.Prelude.{◌≡◌, ℕ, List, [], ◌∷◌, true, false, codes, Some, None, refl}
use Rattle.std.specs.Net.Reader.{read_ipv4, read_octet, read_number}
use Rattle.serde_json.specs.Data.{Data, null, boolean, string}
use Rattle.ms_base.specs.Id.{id_bytes, id_of_text, is_id_text}
use Rattle.ms_base.specs.declared.id.Id.{Id}
use Rattle.channel_msgs.specs.View.{NoticeView}
use Rattle.rtp_params.specs.ReadRows.{an_object}
use Rattle.rtp_params.specs.Reading.{number_of}
use Rattle.rtp_params.specs.Writing.{number_value}
use Rattle.reply_contents.specs.declared.notice.Told.TheVariants.{Running, ProducerClosed, ProducerPaused, ProducerResumed, TupleLearnt, Other}
use Rattle.reply_contents.specs.Contents.{consume_flags, end_in, flags_in, local_tuple}
use Rattle.reply_contents.specs.Notices.{events, told_of}

-- ---- replies

abbrev octets : List ℕ
octets = 192 ∷ 0 ∷ 2 ∷ 1 ∷ []

abbrev address : Data
address = string (codes "192.0.2.1")

abbrev local : Data → Data → Data
local ip port = an_object ((codes "tuple", an_object ((codes "localIp", ip) ∷ (codes "localPort", port) ∷ [])) ∷ [])

listens : local_tuple (Some (local address (number_value 40000))) ≡ Some (record { ip = octets; port = 40000 })
unfolding read_ipv4 read_octet read_number end_in number_of
listens = refl

listens-at-0 : local_tuple (Some (local address (number_value 0))) ≡ None
unfolding read_ipv4 read_octet read_number end_in number_of
listens-at-0 = refl

listens-past-the-ports : local_tuple (Some (local address (number_value 65536))) ≡ None
unfolding read_ipv4 read_octet read_number end_in number_of
listens-past-the-ports = refl

listens-nowhere : local_tuple (Some (local (string (codes "192.0.2.256")) (number_value 40000))) ≡ None
unfolding read_ipv4 read_octet read_number end_in
listens-nowhere = refl

without-a-tuple : local_tuple (Some (an_object ((codes "localIp", address) ∷ (codes "localPort", number_value 40000) ∷ []))) ≡ None
without-a-tuple = refl

without-a-content : local_tuple None ≡ None
without-a-content = refl

abbrev stands : Data → Data → Data
stands paused producer_paused = an_object ((codes "paused", paused) ∷ (codes "producerPaused", producer_paused) ∷ [])

stands-paused : consume_flags (Some (stands (boolean true) (boolean false))) ≡ Some (record { paused = true; producer_paused = false })
unfolding flags_in
stands-paused = refl

-- a `null` is no want of the member, and no truth value
stands-by-null : consume_flags (Some (stands (boolean true) null)) ≡ None
unfolding flags_in
stands-by-null = refl

-- ---- notices

abbrev id : Id
id = record { 0 = id_bytes 7 10 }

abbrev upper : List ℕ
upper = codes "00000000-0000-4007-8000-00000000000A"

abbrev lower : List ℕ
lower = codes "00000000-0000-4007-8000-00000000000a"

abbrev bare : List ℕ → List ℕ → NoticeView
bare target event = record { target = target; event = event; content = None }

runs : told_of (bare (codes "worker") (codes "running")) ≡ Running
runs = refl

runs-as-an-object : told_of (bare lower (codes "running")) ≡ Other
unfolding id_of_text is_id_text events
runs-as-an-object = refl

closes-the-worker : told_of (bare (codes "worker") (codes "producerclose")) ≡ Other
closes-the-worker = refl

closes : told_of (bare upper (codes "producerclose")) ≡ ProducerClosed id
unfolding id_bytes id_of_text is_id_text events
closes = refl

pauses : told_of (bare lower (codes "producerpause")) ≡ ProducerPaused id
unfolding id_bytes id_of_text is_id_text events
pauses = refl

resumes : told_of (bare lower (codes "producerresume")) ≡ ProducerResumed id
unfolding id_bytes id_of_text is_id_text events
resumes = refl

closes-a-short-id : told_of (bare (codes "00000000-0000-4007-8000-00000000000") (codes "producerclose")) ≡ Other
unfolding id_of_text is_id_text
closes-a-short-id = refl

abbrev remote : Data → Data → Data
remote ip port = an_object ((codes "tuple", an_object ((codes "remoteIp", ip) ∷ (codes "remotePort", port) ∷ [])) ∷ [])

learns : told_of (record { target = lower; event = codes "tuple"; content = Some (remote address (number_value 0)) }) ≡ TupleLearnt id (record { ip = octets; port = 0 })
unfolding id_bytes id_of_text is_id_text events read_ipv4 read_octet read_number end_in number_of
learns = refl

learns-where-it-listens : told_of (record { target = lower; event = codes "tuple"; content = Some (local address (number_value 40000)) }) ≡ Other
unfolding id_of_text is_id_text events end_in
learns-where-it-listens = refl

learns-nothing : told_of (bare lower (codes "tuple")) ≡ Other
unfolding id_of_text is_id_text events
learns-nothing = refl
