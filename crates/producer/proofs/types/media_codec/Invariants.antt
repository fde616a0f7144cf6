use Rattle.std.proofs.Common.{◌≡◌, drop}
use Rattle.std.specs.List.{find}
use Rattle.producer.specs.Received.{is_media_codec}
use Rattle.producer.proofs.types.media_codec.Given as goal

-- none of those so far is it
abbrev pub invariant-loop-codec : goal.invariant-loop-codec
invariant-loop-codec l = find (is_media_codec l.own) l.codecs ≡ find (is_media_codec l.own) (drop l.codec-index l.codecs)
