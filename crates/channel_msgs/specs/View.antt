-- What contracts see of messages and requests: each as it is, with the data of a JSON value in place of the value.
-- This project's own.
use Rattle.std.specs.Prelude.{ℕ, List, Option, option_map}
use Rattle.serde_json.specs.Data.{Data}
use Rattle.serde_json.specs.View.{view}
use Rattle.ms_base.specs.declared.id.Id.{Id}
use Rattle.ms_base.specs.declared.outcome.WorkerError.{WorkerError}
use Rattle.channel_msgs.specs.declared.message.Ids.{Ids}
use Rattle.channel_msgs.specs.declared.message.Request.{Request}
use Rattle.channel_msgs.specs.declared.message.Answer.{Answer}
use Rattle.channel_msgs.specs.declared.message.Answer.TheVariants.{Accepted, Refused}
use Rattle.channel_msgs.specs.declared.message.Reply.{Reply}
use Rattle.channel_msgs.specs.declared.message.Notice.{Notice}
use Rattle.channel_msgs.specs.declared.message.Message.{Message}
use Rattle.channel_msgs.specs.declared.message.Message.TheVariants as message

pub record RequestView : Type 0 where
  pub id : ℕ
  pub method : List ℕ
  pub ids : Ids
  pub content : Option Data

pub data AnswerView : Type 0 where
  accepted : Option Data → AnswerView
  refused : WorkerError → List ℕ → AnswerView

pub record ReplyView : Type 0 where
  pub id : ℕ
  pub answer : AnswerView

pub record NoticeView : Type 0 where
  pub target : List ℕ
  pub event : List ℕ
  pub content : Option Data

pub data MessageView : Type 0 where
  reply : ReplyView → MessageView
  notice : NoticeView → MessageView
  log : ℕ → List ℕ → MessageView
  rtp : Id → List ℕ → MessageView

abbrev pub request_view : Request → RequestView
request_view r = record { id = r.id; method = r.method; ids = r.ids; content = option_map view r.content }

abbrev pub answer_view : Answer → AnswerView
answer_view (Accepted content) = accepted (option_map view content)
answer_view (Refused error reason) = refused error reason

abbrev pub reply_view : Reply → ReplyView
reply_view r = record { id = r.id; answer = answer_view r.answer }

abbrev pub notice_view : Notice → NoticeView
notice_view n = record { target = n.target; event = n.event; content = option_map view n.content }

abbrev pub message_view : Message → MessageView
message_view (message.Reply r) = reply (reply_view r)
message_view (message.Notice n) = notice (notice_view n)
message_view (message.Log level text) = log level text
message_view (message.Rtp id packet) = rtp id packet
