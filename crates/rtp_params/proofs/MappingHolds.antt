-- What holds of a mapping that was read.
use Rattle.std.proofs.Common.{◌≡◌, ◌≤◌, ℕ, List, codes, Result, Ok, subst}
use Rattle.serde_json.specs.Data.{Data}
use Rattle.serde_json.specs.Find.{get_member}
use Rattle.rtp_params.specs.declared.mapping.Mapping.{Mapping}
use Rattle.rtp_params.specs.Mappings.{type_of, types_in, types_of, ssrcs_of, mapping_in, mapping_of}
use Rattle.rtp_params.specs.Readable.{Each}
use Rattle.rtp_params.specs.Reading.{object_of, required, list_of}
use Rattle.rtp_params.proofs.Holds.{bind_ok, ok_is, number_holds, required_holds, list_holds}

types-fit : (d : Data) (pair : ℕ × ℕ) → types_of d ≡ Ok pair → pair.1 ≤ 127
unfolding types_in
types-fit d pair h =
    let read = bind_ok (object_of d) types_in pair h in
    let mapped = bind_ok (required type_of (get_member (codes "mappedPayloadType") read.0)) _ pair read.2 in
    let own = bind_ok (required type_of (get_member (codes "payloadType") read.0)) _ pair mapped.2 in
    subst (λ (p : ℕ × ℕ). p.1 ≤ 127) (ok_is (own.0, mapped.0) pair own.2)
    (required_holds (λ n. n ≤ 127) type_of (λ item n e. (number_holds 0 127 item n e).1) (get_member (codes "mappedPayloadType") read.0) mapped.0 mapped.1)

pub mapping_types : (d : Data) (mapping : Mapping) → mapping_of d ≡ Ok mapping → Each (λ pair. pair.1 ≤ 127) mapping.codecs
unfolding mapping_in
mapping_types d mapping h =
    let read = bind_ok (object_of d) mapping_in mapping h in
    let codecs = bind_ok (required (list_of types_of) (get_member (codes "codecs") read.0)) _ mapping read.2 in
    let encodings = bind_ok (required (list_of ssrcs_of) (get_member (codes "encodings") read.0)) _ mapping codecs.2 in
    subst (λ (m : Mapping). Each (λ (pair : ℕ × ℕ). pair.1 ≤ 127) m.codecs) (ok_is (record { codecs = codecs.0; encodings = encodings.0 }) mapping encodings.2)
    (required_holds (Each (λ (pair : ℕ × ℕ). pair.1 ≤ 127)) (list_of types_of) (list_holds (λ (p : ℕ × ℕ). p.1 ≤ 127) types_of types-fit) (get_member (codes "codecs") read.0) codecs.0 codecs.1)
