-- What holds of all that is read (this project's own).
use Rattle.std.specs.Prelude.{◌≡◌, ◌≤◌, length}
use Rattle.rtp_params.specs.declared.params.Caps.{Caps}
use Rattle.rtp_params.specs.Readable.{Each, IsWithin, IsEncoding, AreApart}
use Rattle.call_options.specs.declared.options.ProduceOptions.{ProduceOptions}

-- the codecs are of its media, and there are encodings, with SSRCs of their own
pub record IsProduceOptions (given : ProduceOptions) : Type 0 where
  pub media : Each (λ codec. codec.media ≡ given.media) given.params.codecs
  pub codecs : IsWithin 1 32 (length given.params.codecs)
  pub exts : length given.params.exts ≤ 32
  pub encodings : IsWithin 1 8 (length given.params.encodings)
  pub ssrcs : Each IsEncoding given.params.encodings
  pub apart : AreApart given.params.encodings

-- capabilities have no more items than they may have
abbrev pub AreFew : Caps → Type 0
AreFew given = (length given.codecs ≤ 128) × (length given.exts ≤ 128)
