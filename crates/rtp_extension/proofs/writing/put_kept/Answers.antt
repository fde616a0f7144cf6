use Rattle.std.proofs.Common.{List, ◌∷◌, sym, ◌∙◌, subst, arith}
use Rattle.rtp_extension.specs.Elements.{Element}
use Rattle.rtp_extension.specs.Ids.{kept_id}
use Rattle.rtp_extension.proofs.Writes.{Puts, puts_none, puts_kept}
use Rattle.rtp_extension.proofs.writing.put_kept.Goals as goal

pub loop-id-init : goal.loop-id-init
loop-id-init c =
    let all = c.into_iter-id-iterator.ensures.into_iter_gives ∙ c.of-id-items.ensures in (
      tt,
      tt,
      subst (λ (left : List Element). Puts (kept_id c.args.map.now c.args.only.now) c.args.form c.args.words.now c.args.into.now c.args.into.now left c.args.at c.args.at)
          (sym all) (puts_none (kept_id c.args.map.now c.args.only.now) c.args.form c.args.words.now c.args.into.now c.args.at (λ i. omega (arith, c.type_inv.words i))),
    )

pub loop-id-preserved-in-Some-usable_id : goal.loop-id-preserved-in-Some-usable_id
loop-id-preserved-in-Some-usable_id c =
    let before : Puts (kept_id c.args.map.now c.args.only.now) c.args.form c.args.words.now c.args.into.now c.loop-id.into ((c.in-Some.id, c.in-Some.data.now) ∷ c.next.new.self) c.args.at c.loop-id.end =
    subst (λ (left : List Element). Puts (kept_id c.args.map.now c.args.only.now) c.args.form c.args.words.now c.args.into.now c.loop-id.into left c.args.at c.loop-id.end)
    c.in-Some.ensures.steps c.loop-id.invariant.2 in (
      tt,
      tt,
      puts_kept (kept_id c.args.map.now c.args.only.now) c.args.form c.args.words.now c.args.into.now c.loop-id.into c.put_element-end.new.into
          (c.in-Some.id, c.in-Some.data.now) c.next.new.self c.args.at c.loop-id.end c.put_element-end.result c.in-Some-usable_id.new
          (sym c.in-Some-usable_id.ensures.found) c.requires.room c.put_element-end.ensures before,
    )
