use Rattle.std.proofs.Common.{◌≡◌, [], map, drop}
use Rattle.serde_json.specs.View.{view}
use Rattle.rtp_params.specs.Encodings.{encoding_of}
use Rattle.rtp_params.specs.Reading.{read_behind}
use Rattle.rtp_params.proofs.read.encoding.read_items.Given as goal

-- what is left, read behind what has been read, comes to what the whole comes to
abbrev pub invariant-loop-value : goal.invariant-loop-value
invariant-loop-value l =
    read_behind encoding_of l.encodings (map view (drop l.value-index l.values)) ≡ read_behind encoding_of [] (map view l.values)
