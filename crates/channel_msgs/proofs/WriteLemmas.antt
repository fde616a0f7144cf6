-- What is written reads back.
use Rattle.std.proofs.Common.{◌≡◌, ℕ, List, [], ◌∷◌, get_or, true, false, Option, Some, None, option_and_then, refl, ap, ◌∙◌, arith}
use Rattle.json.specs.Token.{Token}
use Rattle.json.specs.Lex.{tokens}
use Rattle.json.specs.Json as json
use Rattle.json.specs.Print.{print, print_from}
use Rattle.json.specs.Tree.{json_tokens}
use Rattle.serde_json.specs.Data.{Data, object, Members}
use Rattle.serde_json.specs.Find.{as_object}
use Rattle.serde_json.specs.Read.{read}
use Rattle.serde_json.specs.Written.{outline, blank, IsInOrder}
use Rattle.std.specs.Str.{IsUtf8}
use Rattle.ms_base.specs.declared.outcome.WorkerError.TheVariants.{TypeError, Error, BadData}
use Rattle.channel_msgs.proofs.ReadLemmas.{object_of_text, message_of_json}
use Rattle.channel_msgs.specs.Read.{is_request_id, is_log_letter, message_in, message_of, request_in, request_of, ids_in}
use Rattle.channel_msgs.specs.Json.{internal_members, request_members, answer_members, notice_members}
use Rattle.channel_msgs.specs.Laws.{has_named_error}
use Rattle.channel_msgs.specs.View.{RequestView, AnswerView, accepted, refused, NoticeView, reply, notice}

-- ---- the first byte of an object's text

first_of_print : (ts : List Token) → get_or (print (Token.begin_object ∷ ts)) 0 0 ≡ 123
unfolding print_from
first_of_print ts = refl

begins : (j : json.Json) (ms : Members) → blank j ≡ outline (object ms) → (ts : List Token) → ts ≡ json_tokens j → get_or (print ts) 0 0 ≡ 123
begins json.null ms h ts e = cc
begins (json.boolean b) ms h ts e = cc
begins (json.number s) ms h ts e = cc
begins (json.string s) ms h ts e = cc
begins (json.array js) ms h ts e = cc
begins (json.object js) ms h ts e = rw e (first_of_print _)

pub begins_with_a_brace : (text : List ℕ) (ms : Members) → text ≡ print (tokens text) → IsInOrder text (object ms) → get_or text 0 0 ≡ 123
begins_with_a_brace text ms e order = ap (λ t. get_or t 0 0) e ∙ begins order.0 ms order.2 (tokens text) order.1

pub request_back : (text : List ℕ) (ms : Members) → IsUtf8 text → read text ≡ Some (object ms) → request_of text ≡ request_in ms
unfolding request_of
request_back text ms utf8 e = ap (option_and_then request_in) (object_of_text text utf8 ∙ ap (option_and_then as_object) e)

pub message_back : (text : List ℕ) (ms : Members) → get_or text 0 0 ≡ 123 → IsUtf8 text → read text ≡ Some (object ms) → message_of text ≡ message_in ms
message_back [] ms brace utf8 e = absurd (omega arith)
message_back (c ∷ rest) ms brace utf8 e =
    let log : is_log_letter c ≡ false = rw brace in
    message_of_json (c ∷ rest) (omega arith) (λ r. omega arith) log
    ∙ ap (option_and_then message_in) (object_of_text (c ∷ rest) utf8 ∙ ap (option_and_then as_object) e)

-- ---- requests, replies and notices

pub request_read : (r : RequestView) → is_request_id r.id ≡ true → ids_in (Some (internal_members r.ids)) ≡ r.ids → request_in (request_members r) ≡ Some r
request_read r h ids = by_content r.content
  where
    by_content : (content : Option Data) → request_in (request_members (record r { content = content })) ≡ Some (record r { content = content })
    by_content None = rw (h, ids)
    by_content (Some d) = rw (h, ids)

pub answer_read : (id : ℕ) (a : AnswerView) → is_request_id id ≡ true → has_named_error a ≡ true → message_in (answer_members id a) ≡ Some (reply (record { id = id; answer = a }))
answer_read id (accepted None) h n = rw h
answer_read id (accepted (Some d)) h n = rw h
answer_read id (refused TypeError reason) h n = rw h
answer_read id (refused Error reason) h n = rw h
answer_read id (refused BadData reason) h n = cc

pub notice_read : (n : NoticeView) → message_in (notice_members n) ≡ Some (notice n)
notice_read n = by_content n.content
  where
    by_content : (content : Option Data) → message_in (notice_members (record n { content = content })) ≡ Some (notice (record n { content = content }))
    by_content None = refl
    by_content (Some d) = refl
