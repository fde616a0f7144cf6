-- What holds of the contents that the reading rules give.
use Rattle.std.proofs.Common.{◌≡◌, ◌≤◌, ◌&&◌, ◌||◌, nat_lt, not, List, length, Bool, true, false, cond, Option, Some, None, option_and_then, Result, Ok, Err, codes, refl, subst}
use Rattle.std.proofs.lemmas.Bool.{and_parts, eqb-true, ltb-true}
use Rattle.serde_json.specs.Data.{Data, Members}
use Rattle.serde_json.specs.Find.{get_member}
use Rattle.ms_base.specs.declared.code.Code.{Code}
use Rattle.rtp_params.specs.declared.encoding.Encoding.{Encoding}
use Rattle.rtp_params.specs.declared.mapping.Mapping.{Mapping}
use Rattle.rtp_params.specs.declared.params.Params.{Params}
use Rattle.rtp_params.specs.Encodings.{encodings_of}
use Rattle.rtp_params.specs.Mappings.{mapping_of}
use Rattle.rtp_params.specs.Readable.{Each, IsEncoding, AreApart}
use Rattle.rtp_params.specs.Reading.{◌>>=◌, bool_of, object_of, required}
use Rattle.rtp_params.specs.Whole.{params_of}
use Rattle.worker_requests.specs.declared.content.ProduceContent.{ProduceContent}
use Rattle.worker_requests.specs.declared.content.ConsumeContent.{ConsumeContent}
use Rattle.worker_requests.specs.Contents.{read_well, content_by, media_of, produce_in, produce_content, is_simple_of, consume_in, consume_content, is_matched}
use Rattle.worker_requests.specs.Laws.{IsProduceContent, IsConsumeContent}

-- ---- what is put together of what is read

bound : {A B : Type 0} (r : Result A Code) (f : A → Result B Code) (y : B) → (r >>= f) ≡ Ok y → (x : A) × (r ≡ Ok x) × (f x ≡ Ok y)
bound (Ok x) f y h = (x, refl, h)
bound (Err e) f y h = absurd cc

ok_is : {A : Type 0} (x y : A) → ◌≡◌ {A = Result A Code} (Ok x) (Ok y) → x ≡ y
ok_is x y h = cc

required_is : {A : Type 0} (reads : Data → Result A Code) (found : Option Data) (x : A) → required reads found ≡ Ok x → (d : Data) × (reads d ≡ Ok x)
required_is reads None x h = absurd cc
required_is reads (Some d) x h = (d, h)

well_read : {A : Type 0} (r : Result A Code) (x : A) → read_well r ≡ Some x → r ≡ Ok x
well_read (Ok y) x h = cc
well_read (Err e) x h = absurd cc

-- a content comes of the members of an object
in_members : {A : Type 0} (reads : Members → Result A Code) (content : Option Data) (x : A) → content_by reads content ≡ Some x → (ms : Members) × (reads ms ≡ Ok x)
in_members reads content x h = let found = bound (required object_of content) reads x (well_read _ x h) in (found.0, found.2)

-- one that is kept is the one that was read, and the test was passed
kept : {A : Type 0} (test : A → Bool) (found : Option A) (y : A) → option_and_then (λ x. cond (test x) (Some x) None) found ≡ Some y → (found ≡ Some y) × (test y ≡ true)
kept {A} test None y h = absurd cc
kept {A} test (Some x) y h = by (test x) refl h
  where
    by : (b : Bool) → test x ≡ b → cond b (Some x) None ≡ Some y → (◌≡◌ {A = Option A} (Some x) (Some y)) × (test y ≡ true)
    by true passed e = let same : x ≡ y = cc in (e, subst (λ (z : A). test z ≡ true) same passed)
    by false passed e = absurd cc

-- ---- the members that laws of the crates below speak of

produced_of : (ms : Members) (c : ProduceContent) → produce_in ms ≡ Ok c
    → ((d : Data) × (mapping_of d ≡ Ok c.mapping)) × ((d : Data) × (params_of d ≡ Ok c.params))
unfolding produce_in
produced_of ms c h =
    let media = bound (required media_of (get_member (codes "kind") ms)) _ c h in
    let paused = bound (required bool_of (get_member (codes "paused") ms)) _ c media.2 in
    let mapping = bound (required mapping_of (get_member (codes "rtpMapping") ms)) _ c paused.2 in
    let params = bound (required params_of (get_member (codes "rtpParameters") ms)) _ c mapping.2 in
    subst (λ (x : ProduceContent). ((d : Data) × (mapping_of d ≡ Ok x.mapping)) × ((d : Data) × (params_of d ≡ Ok x.params)))
    (ok_is (record { media = media.0; paused = paused.0; mapping = mapping.0; params = params.0 }) c params.2)
    (required_is mapping_of _ mapping.0 mapping.1, required_is params_of _ params.0 params.1)

consumed_of : (ms : Members) (c : ConsumeContent) → consume_in ms ≡ Ok c
    → ((d : Data) × (encodings_of d ≡ Ok c.consumable)) × ((d : Data) × (params_of d ≡ Ok c.params))
unfolding consume_in
consumed_of ms c h =
    let consumable = bound (required encodings_of (get_member (codes "consumableRtpEncodings") ms)) _ c h in
    let media = bound (required media_of (get_member (codes "kind") ms)) _ c consumable.2 in
    let paused = bound (required bool_of (get_member (codes "paused") ms)) _ c media.2 in
    let params = bound (required params_of (get_member (codes "rtpParameters") ms)) _ c paused.2 in
    let simple = bound (required is_simple_of (get_member (codes "type") ms)) _ c params.2 in
    subst (λ (x : ConsumeContent). ((d : Data) × (encodings_of d ≡ Ok x.consumable)) × ((d : Data) × (params_of d ≡ Ok x.params)))
    (ok_is (record { media = media.0; paused = paused.0; consumable = consumable.0; params = params.0; simple = simple.0 }) c simple.2)
    (required_is encodings_of _ consumable.0 consumable.1, required_is params_of _ params.0 params.1)

-- ---- the laws

one_where_simple : (simple one : Bool) → (not simple || one) ≡ true → simple ≡ true → one ≡ true
one_where_simple true one h s = h
one_where_simple false one h s = absurd cc

module _
    (encodings : (d : Data) (es : List Encoding) → encodings_of d ≡ Ok es → Each IsEncoding es × AreApart es)
    (streams : (d : Data) (params : Params) → params_of d ≡ Ok params → Each IsEncoding params.encodings × AreApart params.encodings)
    (types : (d : Data) (mapping : Mapping) → mapping_of d ≡ Ok mapping → Each (λ pair. pair.1 ≤ 127) mapping.codecs) where
  pub produced_is : (content : Option Data) (c : ProduceContent) → produce_content content ≡ Some c → IsProduceContent c
  produced_is content c h =
      let valid = kept (λ (x : ProduceContent). nat_lt 0 (length x.params.encodings)) (content_by produce_in content) c h in
      let read = in_members produce_in content c valid.0 in
      let of = produced_of read.0 c read.1 in
      let own = streams of.1.0 c.params of.1.1 in
      record {
        types = types of.0.0 c.mapping of.0.1;
        encodings = own.0;
        apart = own.1;
        some = ltb-true 0 _ valid.1;
      }

  pub consumed_is : (content : Option Data) (c : ConsumeContent) → consume_content content ≡ Some c → IsConsumeContent c
  consumed_is content c h =
      let valid = kept (λ (x : ConsumeContent). nat_lt 0 (length x.params.encodings) && is_matched x.simple x.consumable x.params.encodings) (content_by consume_in content) c h in
      let read = in_members consume_in content c valid.0 in
      let of = consumed_of read.0 c read.1 in
      let consumable = encodings of.0.0 c.consumable of.0.1 in
      let own = streams of.1.0 c.params of.1.1 in
      let tests = and_parts _ _ valid.1 in
      let matched = and_parts _ _ tests.1 in
      record {
        consumable = consumable.0;
        consumable_apart = consumable.1;
        encodings = own.0;
        apart = own.1;
        some = ltb-true 0 _ tests.0;
        matched = eqb-true _ _ matched.0;
        one = λ s. eqb-true _ _ (one_where_simple c.simple _ matched.1 s);
      }
