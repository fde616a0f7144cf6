-- What holds of each content that is read, and how long what is said can be.
use Rattle.std.specs.Prelude.{◌≡◌, ◌≤◌, length, true}
use Rattle.rtp_params.specs.Readable.{Each, IsEncoding, AreApart}
use Rattle.worker_requests.specs.declared.content.ProduceContent.{ProduceContent}
use Rattle.worker_requests.specs.declared.content.ConsumeContent.{ConsumeContent}

-- what a payload type is mapped to is one, and there are encodings, with SSRCs of their own
pub record IsProduceContent (c : ProduceContent) : Type 0 where
  pub types : Each (λ pair. pair.1 ≤ 127) c.mapping.codecs
  pub encodings : Each IsEncoding c.params.encodings
  pub apart : AreApart c.params.encodings
  pub some : 1 ≤ length c.params.encodings

-- there are encodings, with SSRCs of their own, for as many consumable ones, and one alone where it is simple
pub record IsConsumeContent (c : ConsumeContent) : Type 0 where
  pub consumable : Each IsEncoding c.consumable
  pub consumable_apart : AreApart c.consumable
  pub encodings : Each IsEncoding c.params.encodings
  pub apart : AreApart c.params.encodings
  pub some : 1 ≤ length c.params.encodings
  pub matched : length c.consumable ≡ length c.params.encodings
  pub one : c.simple ≡ true → length c.params.encodings ≡ 1
