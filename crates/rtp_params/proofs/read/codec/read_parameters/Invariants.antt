use Rattle.std.proofs.Common.{◌≡◌, ℕ, List, [], ◌++◌, map}
use Rattle.serde_json.specs.View.{members_view}
use Rattle.rtp_params.specs.Codecs.{parameter_of}
use Rattle.rtp_params.specs.Reading.{read_behind, members_list}
use Rattle.rtp_params.specs.declared.codec.Scalar.{Scalar}
use Rattle.rtp_params.proofs.ReadLemmas.{names_of}
use Rattle.rtp_params.proofs.read.codec.read_parameters.Given as goal

-- what is left, read behind what has been read, comes to what the whole comes to
abbrev pub invariant-loop-name : goal.invariant-loop-name
invariant-loop-name l =
    record {
      whole :
          read_behind (λ _. parameter_of) l.parameters.items (members_list (members_view l.name-iterator))
          ≡ read_behind (λ _. parameter_of) [] (members_list (members_view l.members.entries));
      names : map (λ (p : List ℕ × Scalar). p.0) l.parameters.items ++ names_of l.name-iterator ≡ names_of l.members.entries;
    }
