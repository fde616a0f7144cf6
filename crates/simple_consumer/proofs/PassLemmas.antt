-- What is written for one packet.
use Rattle.std.proofs.Common.{◌≡◌, ℕ, List, Bool, true, cond, Some, None, Option, ap, subst, ◌∙◌}
use Rattle.rtp_extension.specs.Ids.{has_id, kept_id}
use Rattle.rtp_extension.specs.Rewriting.{with_ids}
use Rattle.rtp_packet.specs.Packet.{Fields, IsPacket}
use Rattle.rtp_packet.specs.Rewriting.{with_fields}
use Rattle.rtp_params.specs.declared.params.Params.{Params}
use Rattle.seq_manager.specs.Numbering.{Numbering, output_number}
use Rattle.simple_consumer.specs.Sending.{Offer, Sending, seq_of, has_ext, ssrc_of, own_ids, emitted_fields, emitted, takes, passed}
use Rattle.simple_consumer.proofs.TableLemmas.{kept-own}

pub is-emitted : (s : Sending) (o : Offer) (params : Params) (numbering : Numbering) (ssrc number : ℕ) (set : List Bool) (f : Fields) (out : List ℕ)
    → params ≡ s.params → numbering ≡ s.numbering → ssrc ≡ ssrc_of params → ((id : ℕ) → has_id set id ≡ has_ext params id)
    → number ≡ output_number numbering f.seq
    → IsPacket (with_fields (with_ids (kept_id o.ids set) f) number ssrc o.mapped.payload_type) out
    → IsPacket (emitted_fields s.params o (output_number s.numbering f.seq) f) out
is-emitted s o params numbering ssrc number set f out params-is numbering-is ssrc-is are number-is h =
    let with_own : IsPacket (with_fields (with_ids (own_ids params o.ids) f) number ssrc o.mapped.payload_type) out =
    subst (λ (ids : ℕ → Option ℕ). IsPacket (with_fields (with_ids ids f) number ssrc o.mapped.payload_type) out) (kept-own params set o.ids are) h in
    let with_ssrc : IsPacket (emitted_fields params o number f) out =
    subst (λ (n : ℕ). IsPacket (with_fields (with_ids (own_ids params o.ids) f) number n o.mapped.payload_type) out) ssrc-is with_own in
    let with_number : IsPacket (emitted_fields params o (output_number s.numbering f.seq) f) out =
    subst (λ (n : ℕ). IsPacket (emitted_fields params o n f) out) (number-is ∙ ap (λ (m : Numbering). output_number m f.seq) numbering-is) with_ssrc in
    subst (λ (p : Params). IsPacket (emitted_fields p o (output_number s.numbering f.seq) f) out) params-is with_number

pub passed-taken : (s : Sending) (o : Offer) → takes s o.mapped ≡ true → passed s o ≡ Some (emitted s.params o (output_number s.numbering (seq_of o)))
passed-taken s o t = ap (λ (b : Bool). cond b (Some (emitted s.params o (output_number s.numbering (seq_of o)))) None) t
