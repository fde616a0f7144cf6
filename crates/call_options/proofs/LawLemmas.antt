-- What holds of what is read, from what the chain of its reading came by.
use Rattle.std.proofs.Common.{◌≡◌, ◌≤◌, ℕ, List, [], ◌∷◌, length, leb, ◌&&◌, Bool, true, false, cond, Option, Some, None, Result, Ok, Err, codes, refl, subst}
use Rattle.std.specs.List.{list_all}
use Rattle.std.proofs.lemmas.Bool.{and_parts, leb-true}
use Rattle.serde_json.specs.Data.{Data, Members}
use Rattle.serde_json.specs.Find.{get_member}
use Rattle.ms_base.specs.declared.code.Code.{Code}
use Rattle.ms_base.specs.declared.code.Code.TheVariants as code
use Rattle.ms_base.specs.declared.id.Id.{Id}
use Rattle.ms_base.specs.declared.keys.Media.{Media}
use Rattle.ms_base.specs.declared.keys.Media.TheVariants.{Audio, Video}
use Rattle.rtp_params.specs.declared.codec.Codec.{Codec}
use Rattle.rtp_params.specs.declared.params.Caps.{Caps}
use Rattle.rtp_params.specs.declared.params.Params.{Params}
use Rattle.rtp_params.specs.Readable.{Each, IsWithin, IsEncoding, AreApart}
use Rattle.rtp_params.specs.Reading.{◌>>=◌, is_within, text_of, object_of, required, optional}
use Rattle.rtp_params.specs.Table.{is_for}
use Rattle.rtp_params.specs.Whole.{params_of, caps_of}
use Rattle.call_options.specs.declared.options.ProduceOptions.{ProduceOptions}
use Rattle.call_options.specs.declared.options.ConsumeOptions.{ConsumeOptions}
use Rattle.call_options.specs.Gives.{type_error}
use Rattle.call_options.specs.Laws.{IsProduceOptions, AreFew}
use Rattle.call_options.specs.Limits.{router_fits, params_fit, caps_fit, if_fits}
use Rattle.call_options.specs.Options.{capability_codecs_of, router_in, router_of, router_options, is_of, media_named, if_all_of, media_of, produce_in, produce_of, produce_options, consume_in, consume_of, consume_options, caps_options}
use Rattle.call_options.specs.Values.{value_of, id_of, flag_in}

-- ---- chains

bound : {A B : Type 0} (r : Result A Code) (f : A → Result B Code) (y : B) → (r >>= f) ≡ Ok y → (x : A) × (r ≡ Ok x) × (f x ≡ Ok y)
bound (Ok x) f y h = (x, refl, h)
bound (Err e) f y h = absurd cc

ok_is : {A : Type 0} (x y : A) → ◌≡◌ {A = Result A Code} (Ok x) (Ok y) → x ≡ y
ok_is x y h = cc

chosen : {A : Type 0} (b : Bool) (x y : A) (c : Code) → cond b (Ok x) (Err c) ≡ Ok y → (b ≡ true) × (x ≡ y)
chosen true x y c h = (refl, cc)
chosen false x y c h = absurd cc

was_read : {A : Type 0} (r : Result A Code) (x : A) → type_error r ≡ Ok x → r ≡ Ok x
was_read (Ok y) x h = cc
was_read (Err e) x h = absurd cc

-- what is read of a member that has to be there
found_of : {A : Type 0} (reads : Data → Result A Code) (found : Option Data) (x : A) → required reads found ≡ Ok x → (d : Data) × (reads d ≡ Ok x)
found_of reads None x h = absurd cc
found_of reads (Some d) x h = (d, h)

within_is : (low high n : ℕ) → is_within low high n ≡ true → IsWithin low high n
within_is low high n h = let both = and_parts (leb low n) (leb n high) h in (leb-true low n both.0, leb-true n high both.1)

-- ---- limits

pub router_fitting : (options : List ℕ) (given : List Codec) → router_options options ≡ Ok given → length given ≤ 32
unfolding router_in
router_fitting options given h =
    let value = bound (value_of options) router_of given (was_read _ given h) in
    let members = bound (object_of value.0) router_in given value.2 in
    let codecs = bound (required capability_codecs_of (get_member (codes "mediaCodecs") members.0)) (if_fits router_fits) given members.2 in
    let fits = chosen (router_fits codecs.0) codecs.0 given code.Many codecs.2 in
    subst (λ (xs : List Codec). length xs ≤ 32) fits.1 (leb-true (length codecs.0) 32 fits.0)

few_are : (caps : Caps) → caps_fit caps ≡ true → AreFew caps
few_are caps h =
    let both = and_parts (leb (length caps.codecs) 128) (leb (length caps.exts) 128) h in
    (leb-true (length caps.codecs) 128 both.0, leb-true (length caps.exts) 128 both.1)

pub caps_fitting : (options : List ℕ) (given : Caps) → caps_options options ≡ Ok given → AreFew given
caps_fitting options given h =
    let caps = bound (value_of options >>= caps_of) (if_fits caps_fit) given (was_read _ given h) in
    let fits = chosen (caps_fit caps.0) caps.0 given code.Many caps.2 in
    subst AreFew fits.1 (few_are caps.0 fits.0)

consumed_in : (ms : Members) (given : ConsumeOptions) → consume_in ms ≡ Ok given → AreFew given.caps
unfolding consume_in
consumed_in ms given h =
    let caps = bound (required caps_of (get_member (codes "rtpCapabilities") ms)) _ given h in
    let paused = bound (flag_in (codes "paused") false ms) _ given caps.2 in
    let fits = bound (if_fits caps_fit caps.0) _ given paused.2 in
    let passed = chosen (caps_fit caps.0) caps.0 fits.0 code.Many fits.1 in
    subst (λ (o : ConsumeOptions). AreFew o.caps) (ok_is (record { caps = caps.0; paused = paused.0 }) given fits.2) (few_are caps.0 passed.0)

pub consumed_fitting : (options : List ℕ) (given : ConsumeOptions) → consume_options options ≡ Ok given → AreFew given.caps
consumed_fitting options given h =
    let value = bound (value_of options) consume_of given (was_read _ given h) in
    let members = bound (object_of value.0) consume_in given value.2 in
    consumed_in members.0 given members.2

-- ---- Producers

same_media : (media other : Media) → is_for media (Some other) ≡ true → other ≡ media
same_media Audio Audio h = refl
same_media Video Video h = refl
same_media Audio Video h = absurd cc
same_media Video Audio h = absurd cc

each_of : (media : Media) (codecs : List Codec) → list_all (is_of media) codecs ≡ true → Each (λ codec. codec.media ≡ media) codecs
each_of media [] h = tt
each_of media (codec ∷ codecs) h =
    let both = and_parts (is_of media codec) (list_all (is_of media) codecs) h in
    (same_media media codec.media both.0, each_of media codecs both.1)

media_is : (kind : List ℕ) (given : List Codec) (media : Media) → media_of kind given ≡ Ok media → Each (λ codec. codec.media ≡ media) given
media_is kind given media h =
    let named = bound (media_named kind) (if_all_of given) media h in
    let all = chosen (list_all (is_of named.0) given) named.0 media code.Kind named.2 in
    subst (λ (m : Media). Each (λ codec. codec.media ≡ m) given) all.1 (each_of named.0 given all.0)

module _ (streams : (d : Data) (params : Params) → params_of d ≡ Ok params → Each IsEncoding params.encodings × AreApart params.encodings) where
  whole : (params : Params) (media : Media) (paused : Bool) (id : Option Id) → params_fit params ≡ true → Each (λ codec. codec.media ≡ media) params.codecs
      → Each IsEncoding params.encodings × AreApart params.encodings → IsProduceOptions (record { media = media; params = params; paused = paused; id = id })
  whole params media paused id fits each own =
      let front = and_parts (is_within 1 32 (length params.codecs) && leb (length params.exts) 32) (is_within 1 8 (length params.encodings)) fits in
      let both = and_parts (is_within 1 32 (length params.codecs)) (leb (length params.exts) 32) front.0 in
      record {
        media = each;
        codecs = within_is 1 32 (length params.codecs) both.0;
        exts = leb-true (length params.exts) 32 both.1;
        encodings = within_is 1 8 (length params.encodings) front.1;
        ssrcs = own.0;
        apart = own.1;
      }

  produced_in : (ms : Members) (given : ProduceOptions) → produce_in ms ≡ Ok given → IsProduceOptions given
  unfolding produce_in
  produced_in ms given h =
      let kind = bound (required text_of (get_member (codes "kind") ms)) _ given h in
      let params = bound (required params_of (get_member (codes "rtpParameters") ms)) _ given kind.2 in
      let paused = bound (flag_in (codes "paused") false ms) _ given params.2 in
      let id = bound (optional id_of (get_member (codes "id") ms)) _ given paused.2 in
      let fits = bound (if_fits params_fit params.0) _ given id.2 in
      let media = bound (media_of kind.0 params.0.codecs) _ given fits.2 in
      let passed = chosen (params_fit params.0) params.0 fits.0 code.Many fits.1 in
      let found = found_of params_of _ params.0 params.1 in
      subst IsProduceOptions (ok_is (record { media = media.0; params = params.0; paused = paused.0; id = id.0 }) given media.2)
      (whole params.0 media.0 paused.0 id.0 passed.0 (media_is kind.0 params.0.codecs media.0 media.1) (streams found.0 params.0 found.1))

  pub produced_fitting : (options : List ℕ) (given : ProduceOptions) → produce_options options ≡ Ok given → IsProduceOptions given
  produced_fitting options given h =
      let value = bound (value_of options) produce_of given (was_read _ given h) in
      let members = bound (object_of value.0) produce_in given value.2 in
      produced_in members.0 given members.2
