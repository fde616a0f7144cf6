-- The text of a request without a content is read as the request.
use Rattle.std.proofs.Common.{◌≡◌, ℕ, ◌+◌, ◌-◌, ◌/◌, ◌%◌, ◌^◌, ◌<◌, ◌≤◌, List, [], ◌∷◌, ◌++◌, take, drop, nat_lt, Bool, true, false, cond, if◌then◌else◌, Option, Some, None, option_map, option_and_then, codes, decimal, refl, sym, ap, ◌∙◌, arith, append-nil}
use Rattle.std.proofs.lemmas.Bool.Decides.{nat_tests}
use Rattle.std.proofs.lemmas.Fmt.{IsAscii-decimal}
use Rattle.std.proofs.lemmas.Str.{IsUtf8-append, IsUtf8-from_ascii, is_utf8-from_IsUtf8}
use Rattle.std.specs.Cmp.Lexicographic.{slice_cmp}
use Rattle.std.specs.Ordering.{nat_cmp, match_ordering}
use Rattle.std.specs.Str.{IsUtf8}
use Rattle.json.specs.Json as json
use Rattle.json.specs.Lex.{tokens}
use Rattle.json.specs.Print.{quoted}
use Rattle.json.specs.Token.{Token}
use Rattle.json.specs.Tree as tree
use Rattle.json.proofs.Printed.Decimals.{IsNumber-decimal}
use Rattle.json.proofs.Printed.Tokens.{tokens-print}
use Rattle.json.proofs.Printed.Trees.{value-json_tokens, ArePrintable-json_tokens}
use Rattle.json.proofs.Printed.Utf8.{are_ascii, IsUtf8-are_ascii, IsUtf8-quoted}
use Rattle.serde_json.specs.Data.{Data, unsigned, number, string, object, Members, no_members, member}
use Rattle.serde_json.specs.Find.{as_object, get_member}
use Rattle.serde_json.specs.Read.{read, max_depth, of_json, of_members}
use Rattle.serde_json.specs.Written.{outline, members_outline, compact_text, members_text, comma_if}
use Rattle.serde_json.proofs.Numbers.{number_of-decimal}
use Rattle.serde_json.proofs.Texts.{print-outline}
use Rattle.ms_base.specs.Id.{hyphen, id_text, lower_hex}
use Rattle.ms_base.specs.declared.id.Id.{Id}
use Rattle.channel_msgs.specs.Json.{optional, id_json, internal_members, request_members, request_json}
use Rattle.channel_msgs.specs.Read.{id_in, ids_in, is_request_id, request_in, request_of}
use Rattle.channel_msgs.specs.View.{RequestView}
use Rattle.channel_msgs.specs.declared.message.Ids.{Ids}
use Rattle.channel_msgs.specs.Laws.{IsBare, ReadsBack, HaveTexts}
use Rattle.channel_msgs.proofs.WriteLemmas.{request_read}

-- ---- a text is read as the value that it was written for

-- the value of what was read, if nothing stands behind it
abbrev whole : Option (json.Json × List Token) → Option Data
whole o = option_and_then of_json (option_and_then (λ p. json.if_last p.0 p.1) o)

read-written : (d : Data) → tree.HasNumbers (outline d) → tree.depth (outline d) ≤ max_depth → of_json (outline d) ≡ Some d → read (compact_text d) ≡ Some d
read-written d numbers shallow same =
    let j = outline d in
    let ts = tree.json_tokens j in
    let lexed : tokens (compact_text d) ≡ ts ++ [] = ap tokens (sym (print-outline d)) ∙ tokens-print ts (ArePrintable-json_tokens j numbers) ∙ sym (append-nil ts) in
    ap whole (ap (json.value max_depth) lexed ∙ value-json_tokens j max_depth [] shallow) ∙ same

-- ---- the texts are UTF-8

hex-utf8 : (bytes : List ℕ) → IsUtf8 (lower_hex bytes)
hex-utf8 bytes = IsUtf8-are_ascii (lower_hex bytes) (ascii bytes)
  where
    small : (d : ℕ) → nat_lt (if nat_lt (d % 16) 10 then 48 + d % 16 else 97 + d % 16 - 10) 128 ≡ true
    small d = grind (arith, nat_tests)

    ascii : (bs : List ℕ) → are_ascii (lower_hex bs) ≡ true
    ascii [] = refl
    ascii (b ∷ bs) = rw (small (b / 16), small b, ascii bs)

-- another part behind a hyphen
then-hex : (text bytes : List ℕ) → IsUtf8 text → IsUtf8 (text ++ hyphen ∷ lower_hex bytes)
then-hex text bytes h = IsUtf8-append text (hyphen ∷ lower_hex bytes) h (IsUtf8-append (hyphen ∷ []) (lower_hex bytes) (IsUtf8-are_ascii (hyphen ∷ []) refl) (hex-utf8 bytes))

id_text-utf8 : (bytes : List ℕ) → IsUtf8 (id_text bytes)
unfolding id_text
id_text-utf8 bytes =
    then-hex _ (drop 10 bytes) (then-hex _ (take 2 (drop 8 bytes)) (then-hex _ (take 2 (drop 6 bytes)) (then-hex _ (take 2 (drop 4 bytes)) (hex-utf8 (take 4 bytes)))))

-- members that are UTF-8 behind a comma, or at the front
abbrev AreUtf8 : Members → Type 0
AreUtf8 ms = (later : Bool) → IsUtf8 (members_text later ms)

comma-utf8 : (later : Bool) → IsUtf8 (comma_if later)
comma-utf8 true = IsUtf8-are_ascii (44 ∷ []) refl
comma-utf8 false = IsUtf8-are_ascii [] refl

none-utf8 : AreUtf8 no_members
none-utf8 later = IsUtf8-are_ascii (125 ∷ []) refl

member-utf8 : (k : List ℕ) (d : Data) (ms : Members) → are_ascii k ≡ true → IsUtf8 (compact_text d) → AreUtf8 ms → AreUtf8 (member k d ms)
member-utf8 k d ms key value rest later =
    let behind = IsUtf8-append (compact_text d) (members_text true ms) value (rest true) in
    let colon = IsUtf8-append (58 ∷ []) (compact_text d ++ members_text true ms) (IsUtf8-are_ascii (58 ∷ []) refl) behind in
    IsUtf8-append (comma_if later) (quoted k ++ 58 ∷ (compact_text d ++ members_text true ms)) (comma-utf8 later)
    (IsUtf8-append (quoted k) (58 ∷ (compact_text d ++ members_text true ms)) (IsUtf8-quoted k (IsUtf8-are_ascii k key)) colon)

object-utf8 : (ms : Members) → AreUtf8 ms → IsUtf8 (compact_text (object ms))
object-utf8 ms h = IsUtf8-append (123 ∷ []) (members_text false ms) (IsUtf8-are_ascii (123 ∷ []) refl) (h false)

-- ---- the ids of a request

module _ (P : Members → Type 0) (none : P no_members) (more : (k : List ℕ) (id : Id) (ms : Members) → are_ascii k ≡ true → P ms → P (member k (id_json id) ms)) where
  one-id : (k : List ℕ) (id : Option Id) (ms : Members) → are_ascii k ≡ true → P ms → P (optional k (option_map id_json id) ms)
  one-id k None ms key h = h
  one-id k (Some id) ms key h = more k id ms key h

  all-ids : (ids : Ids) → P (internal_members ids)
  all-ids ids =
      one-id (codes "consumerId") ids.consumer _ refl
      (one-id (codes "producerId") ids.producer _ refl
      (one-id (codes "routerId") ids.router _ refl (one-id (codes "transportId") ids.transport no_members refl none)))

ids-utf8 : (ids : Ids) → AreUtf8 (internal_members ids)
ids-utf8 ids = all-ids AreUtf8 none-utf8 (λ k id ms key h. member-utf8 k (id_json id) ms key (IsUtf8-quoted (id_text id.0) (id_text-utf8 id.0)) h) ids

ids-depth : (ids : Ids) → tree.members_depth (members_outline (internal_members ids)) ≤ 0
ids-depth ids = all-ids (λ ms. tree.members_depth (members_outline ms) ≤ 0) (omega arith) (λ k id ms key h. omega arith) ids

ids-numbers : (ids : Ids) → tree.MembersHaveNumbers (members_outline (internal_members ids))
ids-numbers ids = all-ids (λ ms. tree.MembersHaveNumbers (members_outline ms)) tt (λ k id ms key h. (tt, h)) ids

-- each id goes behind those of smaller keys
ids-read : (ids : Ids) → of_members (members_outline (internal_members ids)) no_members ≡ Some (internal_members ids)
ids-read ids = by ids.router ids.transport ids.producer ids.consumer
  where
    by : (r t p c : Option Id) → let ids' : Ids = record { router = r; transport = t; producer = p; consumer = c } in
        of_members (members_outline (internal_members ids')) no_members ≡ Some (internal_members ids')
    by None None None None = refl
    by None None None (Some c) = refl
    by None None (Some p) None = refl
    by None None (Some p) (Some c) = refl
    by None (Some t) None None = refl
    by None (Some t) None (Some c) = refl
    by None (Some t) (Some p) None = refl
    by None (Some t) (Some p) (Some c) = refl
    by (Some r) None None None = refl
    by (Some r) None None (Some c) = refl
    by (Some r) None (Some p) None = refl
    by (Some r) None (Some p) (Some c) = refl
    by (Some r) (Some t) None None = refl
    by (Some r) (Some t) None (Some c) = refl
    by (Some r) (Some t) (Some p) None = refl
    by (Some r) (Some t) (Some p) (Some c) = refl

-- ---- the request

abbrev bare : ℕ → List ℕ → Ids → RequestView
bare id method ids = record { id = id; method = method; ids = ids; content = None }

bare-utf8 : (id : ℕ) (method : List ℕ) (ids : Ids) → id < 2 ^ 64 → IsUtf8 method → IsUtf8 (compact_text (request_json (bare id method ids)))
bare-utf8 id method ids fits utf8 =
    let last : Members = member (codes "method") (string method) no_members in
    let later : Members = member (codes "internal") (object (internal_members ids)) last in
    object-utf8 (request_members (bare id method ids))
    (member-utf8 (codes "id") (number (unsigned id)) later refl (IsUtf8-from_ascii (decimal id) (IsAscii-decimal id fits))
    (member-utf8 (codes "internal") (object (internal_members ids)) last refl (object-utf8 (internal_members ids) (ids-utf8 ids))
    (member-utf8 (codes "method") (string method) no_members refl (IsUtf8-quoted method utf8) none-utf8)))

bare-read : (id : ℕ) (method : List ℕ) (ids : Ids) → id < 2 ^ 64 → read (compact_text (request_json (bare id method ids))) ≡ Some (request_json (bare id method ids))
bare-read id method ids fits =
    read-written (request_json (bare id method ids)) (IsNumber-decimal id fits, (ids-numbers ids, (tt, tt))) (omega (arith, ids-depth ids))
    (rw (number_of-decimal id fits, ids-read ids) refl)

bare-back : (id : ℕ) (method : List ℕ) (ids : Ids) → is_request_id id ≡ true → IsUtf8 method
    → request_of (compact_text (request_json (bare id method ids))) ≡ request_in (request_members (bare id method ids))
unfolding request_of
bare-back id method ids h utf8 =
    let fits : id < 2 ^ 64 = grind (arith, nat_tests) in
    let text = compact_text (request_json (bare id method ids)) in
    ap (λ b. option_and_then request_in (option_and_then as_object (cond b (read text) None))) (is_utf8-from_IsUtf8 text (bare-utf8 id method ids fits utf8))
    ∙ ap (λ d. option_and_then request_in (option_and_then as_object d)) (bare-read id method ids fits)

written-back : (r : RequestView) → IsBare r → request_of (compact_text (request_json r)) ≡ request_in (request_members r)
written-back r h =
    let as_bare : (c : Option Data) → c ≡ None → request_of (compact_text (request_json (record r { content = c }))) ≡ request_in (request_members (record r { content = c })) =
    λ c e. let with_content : Option Data → RequestView = λ o. record r { content = o } in
    ap (λ o. request_of (compact_text (request_json (with_content o)))) e ∙ bare-back r.id r.method r.ids h.id h.method
    ∙ ap (λ o. request_in (request_members (with_content o))) (sym e) in
    as_bare r.content h.content

-- ---- what the members say

pub written-id : (r : RequestView) → IsBare r → option_map (λ (q : RequestView). q.id) (request_of (compact_text (request_json r))) ≡ Some r.id
written-id r h = ap (option_map (λ (q : RequestView). q.id)) (written-back r h) ∙ by_content r.content
  where
    by_content : (c : Option Data) → option_map (λ (q : RequestView). q.id) (request_in (request_members (record r { content = c }))) ≡ Some r.id
    by_content None = rw (h.id) refl
    by_content (Some d) = rw (h.id) refl

-- a member of another key
other-key : (k l : List ℕ) (d : Option Data) (ms : Members) → ((x y : Option Data) → match_ordering (slice_cmp nat_cmp k l) x y x ≡ x)
    → get_member k (optional l d ms) ≡ get_member k ms
other-key k l None ms h = refl
other-key k l (Some e) ms h = h (get_member k ms) (Some e)

this-key : (k : List ℕ) (d : Option Data) (ms : Members) → ((x y : Option Data) → match_ordering (slice_cmp nat_cmp k k) x y x ≡ y) → get_member k ms ≡ None
    → get_member k (optional k d ms) ≡ d
this-key k None ms h none = none
this-key k (Some e) ms h none = h (get_member k ms) (Some e)

id-back : (id : Option Id) → ReadsBack id → id_in (option_map id_json id) ≡ id
id-back None h = refl
id-back (Some id) h = ap (λ o. option_map (λ bytes. let i : Id = record { 0 = bytes } in i) o) h

ids-back : (ids : Ids) → HaveTexts ids → ids_in (Some (internal_members ids)) ≡ ids
ids-back ids h =
    let transport : Members = optional (codes "transportId") (option_map id_json ids.transport) no_members in
    let router : Members = optional (codes "routerId") (option_map id_json ids.router) transport in
    let producer : Members = optional (codes "producerId") (option_map id_json ids.producer) router in
    let consumer : Members = optional (codes "consumerId") (option_map id_json ids.consumer) producer in
    let past_consumer : (k : List ℕ) → ((x y : Option Data) → match_ordering (slice_cmp nat_cmp k (codes "consumerId")) x y x ≡ x) → get_member k consumer ≡ get_member k producer =
    λ k e. other-key k (codes "consumerId") (option_map id_json ids.consumer) producer e in
    let past_producer : (k : List ℕ) → ((x y : Option Data) → match_ordering (slice_cmp nat_cmp k (codes "producerId")) x y x ≡ x) → get_member k producer ≡ get_member k router =
    λ k e. other-key k (codes "producerId") (option_map id_json ids.producer) router e in
    let past_router : (k : List ℕ) → ((x y : Option Data) → match_ordering (slice_cmp nat_cmp k (codes "routerId")) x y x ≡ x) → get_member k router ≡ get_member k transport =
    λ k e. other-key k (codes "routerId") (option_map id_json ids.router) transport e in
    let past_transport : (k : List ℕ) → ((x y : Option Data) → match_ordering (slice_cmp nat_cmp k (codes "transportId")) x y x ≡ x) → get_member k transport ≡ None =
    λ k e. other-key k (codes "transportId") (option_map id_json ids.transport) no_members e in
    let r : id_in (get_member (codes "routerId") consumer) ≡ ids.router =
    ap id_in
    (past_consumer (codes "routerId") (λ x y. refl) ∙ past_producer (codes "routerId") (λ x y. refl)
    ∙ this-key (codes "routerId") (option_map id_json ids.router) transport (λ x y. refl) (past_transport (codes "routerId") (λ x y. refl)))
    ∙ id-back ids.router h.router in
    let t : id_in (get_member (codes "transportId") consumer) ≡ ids.transport =
    ap id_in
    (past_consumer (codes "transportId") (λ x y. refl) ∙ past_producer (codes "transportId") (λ x y. refl) ∙ past_router (codes "transportId") (λ x y. refl)
    ∙ this-key (codes "transportId") (option_map id_json ids.transport) no_members (λ x y. refl) refl)
    ∙ id-back ids.transport h.transport in
    let p : id_in (get_member (codes "producerId") consumer) ≡ ids.producer =
    ap id_in
    (past_consumer (codes "producerId") (λ x y. refl)
    ∙ this-key (codes "producerId") (option_map id_json ids.producer) router (λ x y. refl)
    (past_router (codes "producerId") (λ x y. refl) ∙ past_transport (codes "producerId") (λ x y. refl)))
    ∙ id-back ids.producer h.producer in
    let c : id_in (get_member (codes "consumerId") consumer) ≡ ids.consumer =
    ap id_in
    (this-key (codes "consumerId") (option_map id_json ids.consumer) producer (λ x y. refl)
    (past_producer (codes "consumerId") (λ x y. refl) ∙ past_router (codes "consumerId") (λ x y. refl) ∙ past_transport (codes "consumerId") (λ x y. refl)))
    ∙ id-back ids.consumer h.consumer in
    let made : Option Id → Option Id → Option Id → Option Id → Ids = λ w x y z. record { router = w; transport = x; producer = y; consumer = z } in
    ap (λ w. made w (id_in (get_member (codes "transportId") consumer)) (id_in (get_member (codes "producerId") consumer)) (id_in (get_member (codes "consumerId") consumer))) r
    ∙ ap (λ w. made ids.router w (id_in (get_member (codes "producerId") consumer)) (id_in (get_member (codes "consumerId") consumer))) t
    ∙ ap (λ w. made ids.router ids.transport w (id_in (get_member (codes "consumerId") consumer))) p
    ∙ ap (made ids.router ids.transport ids.producer) c

pub written-request : (r : RequestView) → IsBare r → HaveTexts r.ids → request_of (compact_text (request_json r)) ≡ Some r
written-request r h texts = written-back r h ∙ request_read r h.id (ids-back r.ids texts)
