-- Requests, replies and notices as JSON objects, whose members stand in the order of their keys.
-- This project's own.
use Rattle.std.specs.Prelude.{ℕ, List, Bool, true, not, Option, Some, None, option_map, codes}
use Rattle.serde_json.specs.Data.{Data, unsigned, boolean, number, string, object, Members, no_members, member, put}
use Rattle.serde_json.specs.Written.{has_float}
use Rattle.ms_base.specs.Id.{id_text}
use Rattle.ms_base.specs.declared.id.Id.{Id}
use Rattle.ms_base.specs.declared.outcome.WorkerError.{WorkerError}
use Rattle.ms_base.specs.declared.outcome.WorkerError.TheVariants.{TypeError, Error, BadData}
use Rattle.channel_msgs.specs.View.{RequestView, AnswerView, accepted, refused, ReplyView, NoticeView}
use Rattle.channel_msgs.specs.declared.message.Ids.{Ids}

-- a member before others, if it is there
abbrev pub optional : List ℕ → Option Data → Members → Members
optional key (Some d) rest = member key d rest
optional key None rest = rest

-- the same, put at its place in the order of the keys
abbrev pub put_optional : List ℕ → Option Data → Members → Members
put_optional key (Some d) rest = put key d rest
put_optional key None rest = rest

abbrev pub id_json : Id → Data
id_json id = string (id_text id.0)

-- the ids that there are
abbrev pub internal_members : Ids → Members
internal_members ids =
    optional (codes "consumerId") (option_map id_json ids.consumer)
    (optional (codes "producerId") (option_map id_json ids.producer)
    (optional (codes "routerId") (option_map id_json ids.router)
    (optional (codes "transportId") (option_map id_json ids.transport) no_members)))

abbrev pub internal_json : Ids → Data
internal_json ids = object (internal_members ids)

abbrev pub request_members : RequestView → Members
request_members r =
    optional (codes "data") r.content
    (member (codes "id") (number (unsigned r.id))
    (member (codes "internal") (internal_json r.ids)
    (member (codes "method") (string r.method) no_members)))

abbrev pub request_json : RequestView → Data
request_json r = object (request_members r)

abbrev pub error_text : WorkerError → List ℕ
error_text TypeError = codes "TypeError"
error_text Error = codes "Error"
error_text BadData = codes "BadData"

abbrev pub answer_members : ℕ → AnswerView → Members
answer_members id (accepted content) =
    member (codes "accepted") (boolean true)
    (optional (codes "data") content
    (member (codes "id") (number (unsigned id)) no_members))
answer_members id (refused error reason) =
    member (codes "error") (string (error_text error))
    (member (codes "id") (number (unsigned id))
    (member (codes "reason") (string reason) no_members))

abbrev pub reply_json : ReplyView → Data
reply_json r = object (answer_members r.id r.answer)

abbrev pub notice_members : NoticeView → Members
notice_members n =
    optional (codes "data") n.content
    (member (codes "event") (string n.event)
    (member (codes "targetId") (string n.target) no_members))

abbrev pub notice_json : NoticeView → Data
notice_json n = object (notice_members n)

-- ---- contents

abbrev pub answer_content : AnswerView → Option Data
answer_content (accepted content) = content
answer_content (refused named reason) = None

-- each number of the content is held as a whole number, and none as a float
abbrev pub has_whole_numbers : Option Data → Bool
has_whole_numbers None = true
has_whole_numbers (Some d) = not (has_float d)
