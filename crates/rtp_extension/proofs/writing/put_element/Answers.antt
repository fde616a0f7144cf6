use Rattle.std.proofs.Common.{ℕ, [], ◌∷◌, length, ap, sym, ◌∙◌}
use Rattle.rtp_extension.specs.declared.form.Form.{Form}
use Rattle.rtp_extension.specs.Elements.{spelled}
use Rattle.rtp_extension.proofs.Writes.{element_written}
use Rattle.rtp_extension.proofs.writing.put_element.Goals as goal
use Rattle.rtp_extension.proofs.writing.put_element.Goals.{in-OneByte, in-TwoByte}

pub returns : goal.returns
returns c =
    elim c.match-form.branch [
      | in-OneByte w ↦
          element_written c.args.form (c.args.id, c.args.data.now) (w.one_byte_head.result ∷ []) c.args.into.now w.put-at.new.into c.match-form.into c.put.new.into
          c.args.at w.put-at.result c.match-form.at c.put.result
          (ap (λ (form : Form). spelled form (c.args.id, c.args.data.now)) w.in-OneByte.is ∙ ap (λ (n : ℕ). n ∷ c.args.data.now) (sym w.one_byte_head.ensures))
          c.requires.room w.into-is w.at-is w.put-at.ensures c.put.ensures
      | in-TwoByte w ↦
          element_written c.args.form (c.args.id, c.args.data.now) (c.args.id ∷ length c.args.data.now ∷ []) c.args.into.now w.put-at-in-TwoByte.new.into c.match-form.into
          c.put.new.into c.args.at w.put-at-in-TwoByte.result c.match-form.at c.put.result
          (ap (λ (form : Form). spelled form (c.args.id, c.args.data.now)) w.in-TwoByte.is)
          c.requires.room w.into-is w.at-is w.put-at-in-TwoByte.ensures c.put.ensures
    ]
