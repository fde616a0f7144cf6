-- The worker reads of a content what it was written of.
use Rattle.std.proofs.Common.{◌≡◌, ◌==◌, ◌&&◌, ◌||◌, not, nat_lt, ℕ, ◌≤◌, List, [], ◌∷◌, ◌++◌, length, map, Bool, true, false, Some, Result, Ok, Err, refl, sym, ap, ◌∙◌, append_assoc, append-nil, arith, lit≤}
use Rattle.std.proofs.lemmas.Bool.{and_from, eq-eqb, le-leb, lt-ltb}
use Rattle.std.proofs.NetLemmas.Ipv4.{read_ipv4_complete}
use Rattle.std.specs.Net.Grammar.{IsDotted}
use Rattle.std.specs.Net.Reader.{read_ipv4, whole_value}
use Rattle.serde_json.specs.Data.{Data}
use Rattle.serde_json.specs.View.{items_of}
use Rattle.ms_base.specs.Words.{ip_text}
use Rattle.ms_base.specs.declared.code.Code.{Code}
use Rattle.ms_base.specs.declared.keys.Media.{Media}
use Rattle.ms_base.specs.declared.keys.Media.TheVariants.{Audio, Video}
use Rattle.ms_base.specs.declared.tuple.Tuple.{Tuple}
use Rattle.rtp_params.specs.declared.encoding.Encoding.{Encoding}
use Rattle.rtp_params.specs.declared.mapping.Mapping.{Mapping}
use Rattle.rtp_params.specs.declared.params.Params.{Params}
use Rattle.rtp_params.specs.Encodings.{encodings_of}
use Rattle.rtp_params.specs.Mappings.{mapping_in, mapping_of, ssrcs_in, ssrcs_of, types_in, types_of}
use Rattle.rtp_params.specs.Readable.{AreApart, Each, IsEncoding, IsParams, IsWithin}
use Rattle.rtp_params.specs.Reading.{◌>>=◌, items_list, list_of, number_of, read_behind}
use Rattle.rtp_params.specs.Whole.{params_in, params_of, rtcp_in}
use Rattle.rtp_params.specs.Writing.{encoding_value, list_value, number_value, params_value}
use Rattle.worker_requests.specs.declared.content.ConsumeContent.{ConsumeContent}
use Rattle.worker_requests.specs.declared.content.PipeContent.{PipeContent}
use Rattle.worker_requests.specs.declared.content.PlainContent.{PlainContent}
use Rattle.worker_requests.specs.Contents.{connect_content, connect_in, consume_content, consume_in, ip_named, is_matched, is_simple_named, pipe_content, pipe_in, plain_content, plain_in, produce_content, produce_in}
use Rattle.request_contents.specs.Laws.{IsAddress, IsConsumed, IsEnd, IsMapping, IsProduced}
use Rattle.request_contents.specs.Values.{connect_value, consume_value, mapping_value, pipe_value, plain_value, produce_value, ssrcs_value, types_value}

-- ---- values

dotted_of : (ip : List ℕ) → IsAddress ip → IsDotted (ip_text ip) ip
dotted_of [] h = absurd (omega (arith, h.four))
dotted_of (a ∷ []) h = absurd (omega (arith, h.four))
dotted_of (a ∷ b ∷ []) h = absurd (omega (arith, h.four))
dotted_of (a ∷ b ∷ c ∷ []) h = absurd (omega (arith, h.four))
dotted_of (a ∷ b ∷ c ∷ d ∷ []) h = record { a = a; b = b; c = c; d = d; fit = (h.each.0, h.each.1.0, h.each.1.1.0, h.each.1.1.1.0); value = refl; spelled = refl }
dotted_of (a ∷ b ∷ c ∷ d ∷ e ∷ rest) h = absurd (omega (arith, h.four))

ip_back : (ip : List ℕ) → IsAddress ip → ip_named (ip_text ip) ≡ Some ip
ip_back ip h = ap whole_value (ap read_ipv4 (sym (append-nil (ip_text ip))) ∙ read_ipv4_complete (ip_text ip) ip [] (dotted_of ip h) (lit≤ tt))

number_back : (low high n : ℕ) → IsWithin low high n → number_of low high (number_value n) ≡ Ok n
unfolding number_of
number_back low high n h = rw (and_from _ _ (le-leb low n h.0) (le-leb n high h.1)) refl

-- ---- transports

pub plain_back : (c : PlainContent) → IsAddress c.ip → plain_content (Some (plain_value c)) ≡ Some c
unfolding plain_in
plain_back c h = rw (ip_back c.ip h) refl

pub pipe_back : (c : PipeContent) → IsAddress c.ip → pipe_content (Some (pipe_value c)) ≡ Some c
unfolding pipe_in
pipe_back c h = rw (ip_back c.ip h) refl

pub connect_back : (to : Tuple) → IsEnd to → connect_content (Some (connect_value to)) ≡ Some to
unfolding connect_in
connect_back to h = rw (ip_back to.ip h.ip, number_back 1 65535 to.port h.port) refl

-- ---- lists

items_list_of : (ds : List Data) → items_list (items_of ds) ≡ ds
items_list_of [] = refl
items_list_of (d ∷ ds) = ap (λ rest. d ∷ rest) (items_list_of ds)

behind_back : {B : Type 0} (reads : Data → Result B Code) (writes : B → Data) (P : B → Type 0) → ((y : B) → P y → reads (writes y) ≡ Ok y)
    → (before ys : List B) → Each P ys → read_behind (λ _. reads) before (map writes ys) ≡ Ok (before ++ ys)
behind_back reads writes P so before [] h = ap Ok (sym (append-nil before))
behind_back reads writes P so before (y ∷ ys) h = rw (so y h.0) (behind_back reads writes P so (before ++ y ∷ []) ys h.1 ∙ ap Ok (append_assoc before (y ∷ []) ys))

list_back : {B : Type 0} (reads : Data → Result B Code) (writes : B → Data) (P : B → Type 0) → ((y : B) → P y → reads (writes y) ≡ Ok y)
    → (ys : List B) → Each P ys → list_of reads (list_value writes ys) ≡ Ok ys
list_back reads writes P so ys h = rw (items_list_of (map writes ys)) (behind_back reads writes P so [] ys h)

-- ---- mappings

types_back : (pair : ℕ × ℕ) → (pair.0 ≤ 127) × (pair.1 ≤ 127) → types_of (types_value pair) ≡ Ok pair
unfolding types_in
types_back pair h = rw (number_back 0 127 pair.1 (omega arith, h.1), number_back 0 127 pair.0 (omega arith, h.0)) refl

ssrcs_back : (pair : ℕ × ℕ) → (pair.0 ≤ 4294967295) × (pair.1 ≤ 4294967295) → ssrcs_of (ssrcs_value pair) ≡ Ok pair
unfolding ssrcs_in
ssrcs_back pair h = rw (number_back 0 4294967295 pair.1 (omega arith, h.1), number_back 0 4294967295 pair.0 (omega arith, h.0)) refl

mapping_back : (mapping : Mapping) → IsMapping mapping → mapping_of (mapping_value mapping) ≡ Ok mapping
unfolding mapping_in
mapping_back mapping h =
    rw (
      list_back types_of types_value (λ pair. (pair.0 ≤ 127) × (pair.1 ≤ 127)) types_back mapping.codecs h.types,
      list_back ssrcs_of ssrcs_value (λ pair. (pair.0 ≤ 4294967295) × (pair.1 ≤ 4294967295)) ssrcs_back mapping.encodings h.ssrcs,
    ) refl

-- ---- Producers and Consumers

abbrev alone : List Encoding → Params
alone encodings = record { codecs = []; exts = []; encodings = encodings; cname = []; reduced_size = true }

abbrev encodings_or : List Encoding → Result Params Code → List Encoding
encodings_or other (Ok params) = params.encodings
encodings_or other (Err e) = other

encodings_in : (r : Result (List Encoding) Code) (es : List Encoding) → (r >>= (λ encodings. Ok (alone encodings))) ≡ Ok (alone es) → r ≡ Ok es
encodings_in (Ok xs) es h = ap Ok (ap (encodings_or []) h)
encodings_in (Err e) es h = absurd cc

some-is : (n : ℕ) → 1 ≤ n → nat_lt 0 n ≡ true
some-is n h = lt-ltb 0 n (omega arith)

one-is : (simple : Bool) (n : ℕ) → (simple ≡ true → n ≡ 1) → (not simple || n == 1) ≡ true
one-is true n h = eq-eqb n 1 (h refl)
one-is false n h = refl

module _ (back : (params : Params) → IsParams params → params_of (params_value params) ≡ Ok params) where
  encodings_back : (es : List Encoding) → Each IsEncoding es → AreApart es → encodings_of (list_value encoding_value es) ≡ Ok es
  unfolding params_in params_value rtcp_in
  encodings_back es h apart = encodings_in (encodings_of (list_value encoding_value es)) es (back (alone es) (record { codecs = tt; exts = tt; encodings = h; apart = apart }))

  pub produce_back : (media : Media) (paused : Bool) (mapping : Mapping) (params : Params) → IsProduced mapping params
      → produce_content (Some (produce_value media paused mapping params)) ≡ Some (record { media = media; paused = paused; mapping = mapping; params = params })
  unfolding produce_in
  produce_back Audio paused mapping params h = rw (mapping_back mapping h.mapped, back params h.readable, some-is (length params.encodings) h.some) refl
  produce_back Video paused mapping params h = rw (mapping_back mapping h.mapped, back params h.readable, some-is (length params.encodings) h.some) refl

  fits : (simple : Bool) (consumable : List Encoding) (params : Params) → IsConsumed consumable params simple
      → (nat_lt 0 (length params.encodings) && is_matched simple consumable params.encodings) ≡ true
  fits simple consumable params h =
      and_from _ _ (some-is (length params.encodings) h.some)
      (and_from _ _ (eq-eqb (length consumable) (length params.encodings) h.matched) (one-is simple (length params.encodings) h.one))

  abbrev consumed : Media → Bool → Bool → List Encoding → Params → ConsumeContent
  consumed media paused simple consumable params = record { media = media; paused = paused; consumable = consumable; params = params; simple = simple }

  pub consume_back : (media : Media) (paused simple : Bool) (consumable : List Encoding) (params : Params) → IsConsumed consumable params simple
      → consume_content (Some (consume_value media paused consumable params simple)) ≡ Some (consumed media paused simple consumable params)
  unfolding consume_in is_simple_named
  consume_back Audio paused true consumable params h = rw (encodings_back consumable h.each h.apart, back params h.readable) (rw (fits true consumable params h) refl)
  consume_back Audio paused false consumable params h = rw (encodings_back consumable h.each h.apart, back params h.readable) (rw (fits false consumable params h) refl)
  consume_back Video paused true consumable params h = rw (encodings_back consumable h.each h.apart, back params h.readable) (rw (fits true consumable params h) refl)
  consume_back Video paused false consumable params h = rw (encodings_back consumable h.each h.apart, back params h.readable) (rw (fits false consumable params h) refl)
