-- Of what is written, the content alone may have floats, or nest.
use Rattle.std.proofs.Common.{◌≡◌, ℕ, ◌<◌, ◌≤◌, List, Bool, true, false, not, ◌||◌, Option, Some, None, option_map, codes, refl, arith}
use Rattle.serde_json.specs.Data.{Data, unsigned, number, string, object, Members, no_members, member, depth, members_depth}
use Rattle.serde_json.specs.Read.{max_depth}
use Rattle.serde_json.specs.Written.{has_float, members_have_float}
use Rattle.ms_base.specs.declared.id.Id.{Id}
use Rattle.channel_msgs.specs.Json.{optional, id_json, internal_members, internal_json, request_json, answer_members, reply_json, notice_json, answer_content, has_whole_numbers}
use Rattle.channel_msgs.specs.Laws.{content_depth}
use Rattle.channel_msgs.specs.View.{RequestView, AnswerView, accepted, refused, ReplyView, NoticeView}
use Rattle.channel_msgs.specs.declared.message.Ids.{Ids}

-- what holds of no members and of one more id holds of those of `internal`
of_ids : (P : Members → Type 0) → P no_members → ((k : List ℕ) (id : Option Id) (ms : Members) → P ms → P (optional k (option_map id_json id) ms)) → (ids : Ids) → P (internal_members ids)
of_ids P none more ids =
    let transport : Members = optional (codes "transportId") (option_map id_json ids.transport) no_members in
    let router : Members = optional (codes "routerId") (option_map id_json ids.router) transport in
    let producer : Members = optional (codes "producerId") (option_map id_json ids.producer) router in
    more (codes "consumerId") ids.consumer producer
    (more (codes "producerId") ids.producer router
    (more (codes "routerId") ids.router transport
    (more (codes "transportId") ids.transport no_members none)))

-- ---- nesting

optional-depth : (k : List ℕ) (d : Option Data) (ms : Members) (n : ℕ) → content_depth d ≤ n → members_depth ms ≤ n → members_depth (optional k d ms) ≤ n
optional-depth k None ms n h r = r
optional-depth k (Some d) ms n h r = omega arith

id-depth : (id : Option Id) → content_depth (option_map id_json id) ≤ 0
id-depth None = omega arith
id-depth (Some id) = omega arith

internal-depth : (ids : Ids) → members_depth (internal_members ids) ≤ 0
internal-depth ids = of_ids (λ ms. members_depth ms ≤ 0) (omega arith) (λ k id ms h. optional-depth k (option_map id_json id) ms 0 (id-depth id) h) ids

nests_in : (k : List ℕ) (d : Option Data) (ms : Members) → content_depth d < max_depth → members_depth ms ≤ 126 → members_depth (optional k d ms) ≤ 126
nests_in k d ms h r = optional-depth k d ms 126 (omega arith) r

request_rest : RequestView → Members
request_rest r = member (codes "id") (number (unsigned r.id)) (member (codes "internal") (internal_json r.ids) (member (codes "method") (string r.method) no_members))

pub request_nests : (r : RequestView) → content_depth r.content < max_depth → depth (request_json r) ≤ max_depth
unfolding request_rest
request_nests r h =
    let rest : members_depth (request_rest r) ≤ 126 = omega (arith, internal-depth r.ids) in
    omega (arith, nests_in (codes "data") r.content (request_rest r) h rest)

accepted_rest : ℕ → Members
accepted_rest id = member (codes "id") (number (unsigned id)) no_members

answer_nests : (id : ℕ) (a : AnswerView) → content_depth (answer_content a) < max_depth → depth (object (answer_members id a)) ≤ max_depth
unfolding accepted_rest
answer_nests id (accepted content) h = omega (arith, nests_in (codes "data") content (accepted_rest id) h (omega arith))
answer_nests id (refused named reason) h = omega arith

pub reply_nests : (r : ReplyView) → content_depth (answer_content r.answer) < max_depth → depth (reply_json r) ≤ max_depth
reply_nests r h = answer_nests r.id r.answer h

notice_rest : NoticeView → Members
notice_rest n = member (codes "event") (string n.event) (member (codes "targetId") (string n.target) no_members)

pub notice_nests : (n : NoticeView) → content_depth n.content < max_depth → depth (notice_json n) ≤ max_depth
unfolding notice_rest
notice_nests n h = omega (arith, nests_in (codes "data") n.content (notice_rest n) h (omega arith))

-- ---- floats

not_either : (a b : Bool) → not a ≡ true → b ≡ false → (a || b) ≡ false
not_either true b h r = cc
not_either false b h r = r

optional-float : (k : List ℕ) (d : Option Data) (ms : Members) → has_whole_numbers d ≡ true → members_have_float ms ≡ false → members_have_float (optional k d ms) ≡ false
optional-float k None ms h r = r
optional-float k (Some d) ms h r = not_either (has_float d) (members_have_float ms) h r

id-float : (id : Option Id) → has_whole_numbers (option_map id_json id) ≡ true
id-float None = refl
id-float (Some id) = refl

internal-float : (ids : Ids) → members_have_float (internal_members ids) ≡ false
internal-float ids = of_ids (λ ms. members_have_float ms ≡ false) refl (λ k id ms h. optional-float k (option_map id_json id) ms (id-float id) h) ids

pub request_has_no_float : (r : RequestView) → has_whole_numbers r.content ≡ true → has_float (request_json r) ≡ false
unfolding request_rest
request_has_no_float r h = optional-float (codes "data") r.content (request_rest r) h (rw (internal-float r.ids))

answer_has_no_float : (id : ℕ) (a : AnswerView) → has_whole_numbers (answer_content a) ≡ true → has_float (object (answer_members id a)) ≡ false
unfolding accepted_rest
answer_has_no_float id (accepted content) h = optional-float (codes "data") content (accepted_rest id) h refl
answer_has_no_float id (refused named reason) h = refl

pub reply_has_no_float : (r : ReplyView) → has_whole_numbers (answer_content r.answer) ≡ true → has_float (reply_json r) ≡ false
reply_has_no_float r h = answer_has_no_float r.id r.answer h

pub notice_has_no_float : (n : NoticeView) → has_whole_numbers n.content ≡ true → has_float (notice_json n) ≡ false
unfolding notice_rest
notice_has_no_float n h = optional-float (codes "data") n.content (notice_rest n) h refl
