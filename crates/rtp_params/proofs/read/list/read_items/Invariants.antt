use Rattle.std.proofs.Common.{◌≡◌, [], map, drop}
use Rattle.serde_json.specs.View.{view}
use Rattle.rtp_params.specs.Readable.{Each}
use Rattle.rtp_params.specs.Reading.{read_behind}
use Rattle.rtp_params.proofs.read.list.read_items.Given as goal

-- what is left, read behind what has been read, comes to what the whole comes to
abbrev pub invariant-loop-value : goal.invariant-loop-value
invariant-loop-value g l =
    record {
      whole :
          read_behind (λ _. g.T.FromJson.reads l.place) l.items.items (map view (drop l.value-index l.values))
          ≡ read_behind (λ _. g.T.FromJson.reads l.place) [] (map view l.values);
      each : Each g.T.FromJson.holds l.items.items;
    }
