-- What is read nests no deeper than its text may, and has the id of a request.
use Rattle.std.proofs.Common.{◌≡◌, ℕ, suc, ◌<◌, ◌≤◌, List, [], ◌∷◌, Bool, true, false, if◌then◌else◌, ◌==◌, Option, Some, None, option_map, option_and_then, Ordering, Less, Equal, Greater, nat_cmp, bytes_eq, codes, refl, ap, sym, subst, ◌∙◌, arith}
use Rattle.std.specs.Ordering.{match_ordering}
use Rattle.std.specs.Cmp.Lexicographic.{slice_cmp}
use Rattle.std.specs.Str.{is_utf8}
use Rattle.serde_json.specs.Data.{Data, null, boolean, number, unsigned, negative, float, string, array, object, Members, no_members, member, depth, members_depth}
use Rattle.serde_json.specs.Find.{get_member, as_object}
use Rattle.serde_json.specs.Read.{read, max_depth}
use Rattle.serde_json.proofs.Nesting.{depth-read}
use Rattle.ms_base.specs.declared.id.Id.{Id}
use Rattle.ms_base.specs.declared.outcome.WorkerError.TheVariants.{TypeError, Error}
use Rattle.channel_msgs.specs.Packet.{packet_letter}
use Rattle.channel_msgs.specs.Laws.{is_named, content_depth, CanReadRequest, CanReadReply, CanReadNotice, CanReadMessage}
use Rattle.channel_msgs.specs.Read.{is_request_id, request_id, object_of, text_or_empty, error_named, accepted_reply, is_log_letter, refused_reply, reply_by, reply_in, notice_by, notice_in, message_by, message_in, message_of, request_with, request_in, request_of}
use Rattle.channel_msgs.specs.View.{MessageView, RequestView, ReplyView, refused, NoticeView, reply, notice, log, rtp}

-- ---- nesting

either : (o : Ordering) (d : Data) (rest : Option Data) (n : ℕ) → depth d ≤ n → content_depth rest ≤ n → content_depth (match_ordering o rest (Some d) rest) ≤ n
either Less d rest n h r = r
either Equal d rest n h r = h
either Greater d rest n h r = r

get_member-within : (k : List ℕ) (ms : Members) (n : ℕ) → members_depth ms ≤ n → content_depth (get_member k ms) ≤ n
get_member-within k no_members n h = omega arith
get_member-within k (member l d ms) n h = either (slice_cmp nat_cmp k l) d _ n (omega arith) (get_member-within k ms n (omega arith))

shallow : (k : List ℕ) (ms : Members) → suc (members_depth ms) ≤ max_depth → content_depth (get_member k ms) < max_depth
shallow k ms nests = omega (arith, get_member-within k ms 126 (omega arith))

-- ---- ids

of_test : (b : Bool) (n i : ℕ) → (if b then Some n else None) ≡ Some i → (b ≡ true) × (n ≡ i)
of_test true n i e = (refl, cc)
of_test false n i e = cc

request_id-some : (d : Data) (i : ℕ) → request_id d ≡ Some i → is_request_id i ≡ true
request_id-some null i e = cc
request_id-some (boolean b) i e = cc
request_id-some (number (unsigned n)) i e = let both = of_test (is_request_id n) n i e in ap is_request_id (sym both.1) ∙ both.0
request_id-some (number (negative z)) i e = cc
request_id-some (number (float x)) i e = cc
request_id-some (string s) i e = cc
request_id-some (array ds) i e = cc
request_id-some (object ms) i e = cc

of_member : (d : Option Data) (i : ℕ) → option_and_then request_id d ≡ Some i → is_request_id i ≡ true
of_member None i e = cc
of_member (Some d) i e = request_id-some d i e

-- ---- requests

request_made : (fields : Members) (i : ℕ) → suc (members_depth fields) ≤ max_depth → is_request_id i ≡ true → CanReadRequest (request_with fields i)
request_made fields i nests ok = record { id = ok; nests = shallow (codes "data") fields nests }

request_by : (fields : Members) (o : Option ℕ) (r : RequestView) → suc (members_depth fields) ≤ max_depth → ((i : ℕ) → o ≡ Some i → is_request_id i ≡ true)
    → option_map (request_with fields) o ≡ Some r → CanReadRequest r
request_by fields None r nests ok e = absurd (cc)
request_by fields (Some i) r nests ok e =
    let same : request_with fields i ≡ r = cc in
    subst CanReadRequest same (request_made fields i nests (ok i refl))

-- ---- replies

named : (b : Bool) → is_named (if b then TypeError else Error) ≡ true
named true = refl
named false = refl

refused_made : (id : ℕ) (error reason : Option Data) (r : ReplyView) → is_request_id id ≡ true → refused_reply id error reason ≡ Some r → CanReadReply r
refused_made id None reason r ok e = absurd (cc)
refused_made id (Some null) reason r ok e = absurd (cc)
refused_made id (Some (boolean b)) reason r ok e = absurd (cc)
refused_made id (Some (number n)) reason r ok e = absurd (cc)
refused_made id (Some (string s)) reason r ok e =
    let made : ReplyView = record { id = id; answer = refused (error_named s) (text_or_empty reason) } in
    let same : made ≡ r = cc in
    subst CanReadReply same (record { id = ok; error = named (bytes_eq s (codes "TypeError")); nests = omega arith })
refused_made id (Some (array ds)) reason r ok e = absurd (cc)
refused_made id (Some (object ms)) reason r ok e = absurd (cc)

accepted_made : (id : ℕ) (fields : Members) → suc (members_depth fields) ≤ max_depth → is_request_id id ≡ true
    → CanReadReply (accepted_reply id (get_member (codes "data") fields))
accepted_made id fields nests ok = record { id = ok; error = refl; nests = shallow (codes "data") fields nests }

reply_made : (id : ℕ) (accepted : Option Data) (fields : Members) (r : ReplyView) → suc (members_depth fields) ≤ max_depth → is_request_id id ≡ true
    → reply_by id accepted fields ≡ Some r → CanReadReply r
reply_made id None fields r nests ok e = refused_made id _ _ r ok e
reply_made id (Some null) fields r nests ok e = refused_made id _ _ r ok e
reply_made id (Some (boolean true)) fields r nests ok e =
    let same : accepted_reply id (get_member (codes "data") fields) ≡ r = cc in
    subst CanReadReply same (accepted_made id fields nests ok)
reply_made id (Some (boolean false)) fields r nests ok e = refused_made id _ _ r ok e
reply_made id (Some (number n)) fields r nests ok e = refused_made id _ _ r ok e
reply_made id (Some (string s)) fields r nests ok e = refused_made id _ _ r ok e
reply_made id (Some (array ds)) fields r nests ok e = refused_made id _ _ r ok e
reply_made id (Some (object ms)) fields r nests ok e = refused_made id _ _ r ok e

-- ---- notices

event_made : (target : List ℕ) (event content : Option Data) (n : NoticeView) → content_depth content < max_depth → notice_by (Some (string target)) event content ≡ Some n → CanReadNotice n
event_made target None content n within e = absurd (cc)
event_made target (Some null) content n within e = absurd (cc)
event_made target (Some (boolean b)) content n within e = absurd (cc)
event_made target (Some (number x)) content n within e = absurd (cc)
event_made target (Some (string s)) content n within e =
    let made : NoticeView = record { target = target; event = s; content = content } in
    let same : made ≡ n = cc in
    subst CanReadNotice same (record { nests = within })
event_made target (Some (array ds)) content n within e = absurd (cc)
event_made target (Some (object ms)) content n within e = absurd (cc)

notice_made : (target event content : Option Data) (n : NoticeView) → content_depth content < max_depth → notice_by target event content ≡ Some n → CanReadNotice n
notice_made None event content n within e = absurd (cc)
notice_made (Some null) event content n within e = absurd (cc)
notice_made (Some (boolean b)) event content n within e = absurd (cc)
notice_made (Some (number x)) event content n within e = absurd (cc)
notice_made (Some (string s)) event content n within e = event_made s event content n within e
notice_made (Some (array ds)) event content n within e = absurd (cc)
notice_made (Some (object ms)) event content n within e = absurd (cc)

-- ---- messages

of_reply : (o : Option ReplyView) (m : MessageView) → ((r : ReplyView) → o ≡ Some r → CanReadReply r) → option_map reply o ≡ Some m → CanReadMessage m
of_reply None m made e = absurd (cc)
of_reply (Some r) m made e = let same : reply r ≡ m = cc in subst CanReadMessage same (made r refl)

of_notice : (o : Option NoticeView) (m : MessageView) → ((n : NoticeView) → o ≡ Some n → CanReadNotice n) → option_map notice o ≡ Some m → CanReadMessage m
of_notice None m made e = absurd (cc)
of_notice (Some n) m made e = let same : notice n ≡ m = cc in subst CanReadMessage same (made n refl)

of_packet : (o : Option (Id × List ℕ)) (m : MessageView) → option_map (λ p. rtp p.0 p.1) o ≡ Some m → CanReadMessage m
of_packet None m e = absurd (cc)
of_packet (Some p) m e = let same : rtp p.0 p.1 ≡ m = cc in subst CanReadMessage same tt

of_log : (level : ℕ) (text : List ℕ) (m : MessageView) → Some (log level text) ≡ Some m → CanReadMessage m
of_log level text m e = let same : log level text ≡ m = cc in subst CanReadMessage same tt

of_id : (o : Option ℕ) (fields : Members) (m : MessageView) → suc (members_depth fields) ≤ max_depth → ((i : ℕ) → o ≡ Some i → is_request_id i ≡ true)
    → option_and_then (λ n. option_map reply (reply_in n fields)) o ≡ Some m → CanReadMessage m
of_id None fields m nests ok e = absurd (cc)
of_id (Some i) fields m nests ok e = of_reply (reply_in i fields) m (λ r is. reply_made i _ fields r nests (ok i refl) is) e

message_made : (id : Option Data) (fields : Members) (m : MessageView) → suc (members_depth fields) ≤ max_depth → message_by id fields ≡ Some m → CanReadMessage m
message_made None fields m nests e =
    of_notice (notice_in fields) m (λ n is. notice_made _ _ _ n (shallow (codes "data") fields nests) is) e
message_made (Some d) fields m nests e = of_id (request_id d) fields m nests (request_id-some d) e

-- ---- payloads

of_value : (b : Bool) (o : Option Data) (ms : Members) → ((d : Data) → o ≡ Some d → depth d ≤ max_depth) → option_and_then as_object (if b then o else None) ≡ Some ms
    → suc (members_depth ms) ≤ max_depth
of_value false o ms nests e = absurd (cc)
of_value true None ms nests e = absurd (cc)
of_value true (Some null) ms nests e = absurd (cc)
of_value true (Some (boolean b)) ms nests e = absurd (cc)
of_value true (Some (number n)) ms nests e = absurd (cc)
of_value true (Some (string s)) ms nests e = absurd (cc)
of_value true (Some (array ds)) ms nests e = absurd (cc)
of_value true (Some (object found)) ms nests e = let same : found ≡ ms = cc in subst (λ x. suc (members_depth x) ≤ max_depth) same (nests (object found) refl)

object_of-nests : (payload : List ℕ) (ms : Members) → object_of payload ≡ Some ms → suc (members_depth ms) ≤ max_depth
object_of-nests payload ms e = of_value (is_utf8 payload) (read payload) ms (depth-read payload) e

of_object : {A : Type 0} (o : Option Members) (f : Members → Option A) (a : A) → option_and_then f o ≡ Some a → (ms : Members) × (o ≡ Some ms) × (f ms ≡ Some a)
of_object None f a e = absurd (cc)
of_object (Some ms) f a e = (ms, refl, e)

by_letter : (b l : Bool) (x y z : Option MessageView) (m : MessageView) → (x ≡ Some m → CanReadMessage m) → (y ≡ Some m → CanReadMessage m) → (z ≡ Some m → CanReadMessage m)
    → (if b then x else (if l then y else z)) ≡ Some m → CanReadMessage m
by_letter true l x y z m first second third e = first e
by_letter false true x y z m first second third e = second e
by_letter false false x y z m first second third e = third e

pub messages_can_be_written : (payload : List ℕ) (m : MessageView) → message_of payload ≡ Some m → CanReadMessage m
unfolding message_of
messages_can_be_written [] m e = absurd (cc)
messages_can_be_written (c ∷ rest) m e =
    by_letter (c == packet_letter) (is_log_letter c) _ _ _ m (of_packet _ m) (of_log c rest m)
    (λ json. let found = of_object (object_of (c ∷ rest)) message_in m json in message_made (get_member (codes "id") found.0) found.0 m (object_of-nests (c ∷ rest) found.0 found.1) found.2) e

pub requests_can_be_written : (payload : List ℕ) (r : RequestView) → request_of payload ≡ Some r → CanReadRequest r
unfolding request_of
requests_can_be_written payload r e =
    let found = of_object (object_of payload) request_in r e in
    request_by found.0 _ r (object_of-nests payload found.0 found.1) (of_member (get_member (codes "id") found.0)) found.2
