-- What the rules of reading can give: an id of a request, an error that a worker may name, and no deeper nesting
-- than a JSON text may have. What is written of such a value reads back as the value. This project's own.
use Rattle.std.specs.Prelude.{◌≡◌, ℕ, ◌<◌, Bool, true, false, ⊤, Option, Some, None}
use Rattle.std.specs.Str.{IsUtf8}
use Rattle.serde_json.specs.Data.{Data, depth}
use Rattle.serde_json.specs.Read.{max_depth}
use Rattle.ms_base.specs.Id.{id_of_text, id_text}
use Rattle.ms_base.specs.declared.id.Id.{Id}
use Rattle.ms_base.specs.declared.outcome.WorkerError.{WorkerError}
use Rattle.ms_base.specs.declared.outcome.WorkerError.TheVariants.{TypeError, Error, BadData}
use Rattle.channel_msgs.specs.Json.{answer_content}
use Rattle.channel_msgs.specs.Read.{is_request_id}
use Rattle.channel_msgs.specs.View.{RequestView, AnswerView, accepted, refused, ReplyView, NoticeView, MessageView, reply, notice, log, rtp}
use Rattle.channel_msgs.specs.declared.message.Ids.{Ids}

-- `BadData` is the host's own word for a content that it can't read
abbrev pub is_named : WorkerError → Bool
is_named TypeError = true
is_named Error = true
is_named BadData = false

abbrev pub has_named_error : AnswerView → Bool
has_named_error (accepted content) = true
has_named_error (refused error reason) = is_named error

-- how deep a content nests. The object that it stands in nests once itself
abbrev pub content_depth : Option Data → ℕ
content_depth None = 0
content_depth (Some d) = depth d

pub record CanReadRequest (r : RequestView) : Type 0 where
  pub id : is_request_id r.id ≡ true
  pub nests : content_depth r.content < max_depth

pub record CanReadReply (r : ReplyView) : Type 0 where
  pub id : is_request_id r.id ≡ true
  pub error : has_named_error r.answer ≡ true
  pub nests : content_depth (answer_content r.answer) < max_depth

pub record CanReadNotice (n : NoticeView) : Type 0 where
  pub nests : content_depth n.content < max_depth

abbrev pub CanReadMessage : MessageView → Type 0
CanReadMessage (reply r) = CanReadReply r
CanReadMessage (notice n) = CanReadNotice n
CanReadMessage (log level text) = ⊤
CanReadMessage (rtp id packet) = ⊤

-- ---- requests without a content

-- the text of an id reads back as the id, as that of each `Id` does
abbrev pub ReadsBack : Option Id → Type 0
ReadsBack None = ⊤
ReadsBack (Some id) = id_of_text (id_text id.0) ≡ Some id.0

pub record HaveTexts (ids : Ids) : Type 0 where
  pub router : ReadsBack ids.router
  pub transport : ReadsBack ids.transport
  pub producer : ReadsBack ids.producer
  pub consumer : ReadsBack ids.consumer

-- a request with no content, and with an id and a method that a text may have
pub record IsBare (r : RequestView) : Type 0 where
  pub id : is_request_id r.id ≡ true
  pub method : IsUtf8 r.method
  pub content : r.content ≡ None
