-- What a notice tells a host, by its target, its event and its content. This project's own, after mediasoup's names of
-- events.
use Rattle.std.specs.Prelude.{ℕ, List, [], ◌∷◌, codes, bytes_eq, if◌then◌else◌, Option, Some, None, option_map}
use Rattle.serde_json.specs.Data.{Data}
use Rattle.ms_base.specs.Id.{id_of_text}
use Rattle.ms_base.specs.declared.id.Id.{Id}
use Rattle.ms_base.specs.declared.tuple.Tuple.{Tuple}
use Rattle.channel_msgs.specs.View.{NoticeView}
use Rattle.reply_contents.specs.Contents.{remote_tuple}
use Rattle.reply_contents.specs.declared.notice.Told.{Told}
use Rattle.reply_contents.specs.declared.notice.Told.TheVariants.{Running, ProducerClosed, ProducerPaused, ProducerResumed, TupleLearnt, Other}

-- ---- the worker

abbrev pub told_of_worker : List ℕ → Told
told_of_worker event = if bytes_eq event (codes "running") then Running else Other

-- ---- its objects

-- the object that a text names: a UUID in its hyphenated form, in either case of letters (RFC 9562, section 4)
abbrev pub id_named : List ℕ → Option Id
id_named text = option_map (λ bytes. record { 0 = bytes }) (id_of_text text)

-- a tuple that can't be read tells nothing
abbrev pub learnt : Id → Option Tuple → Told
learnt id (Some tuple) = TupleLearnt id tuple
learnt id None = Other

-- an event's name, and what it tells of an object by the content
abbrev pub Row : Type 0
Row = List ℕ × (Option Data → Id → Told)

unfoldable pub events : List Row
events =
    (codes "producerclose", λ content id. ProducerClosed id)
    ∷ (codes "producerpause", λ content id. ProducerPaused id)
    ∷ (codes "producerresume", λ content id. ProducerResumed id)
    ∷ (codes "tuple", λ content id. learnt id (remote_tuple content))
    ∷ []

-- what the first row of this name tells
abbrev pub told_by : List Row → List ℕ → Option Data → Id → Told
told_by [] event content id = Other
told_by (row ∷ rows) event content id = if bytes_eq event row.0 then row.1 content id else told_by rows event content id

abbrev pub told_of_object : List ℕ → Option Data → Id → Told
told_of_object event content id = told_by events event content id

-- a target that names no object tells nothing
abbrev pub told_of_named : List ℕ → Option Data → Option Id → Told
told_of_named event content (Some id) = told_of_object event content id
told_of_named event content None = Other

abbrev pub told_of : NoticeView → Told
told_of n = if bytes_eq n.target (codes "worker") then told_of_worker n.event else told_of_named n.event n.content (id_named n.target)
