use Rattle.std.proofs.Common.{◌≡◌, Bool, true, Option, Some, None, cond, ap, sym, ◌∙◌, find}
use Rattle.worker_router.specs.State.{same_id}
use Rattle.worker_calls.specs.State.{ProducerKey}
use Rattle.worker_calls.specs.Tables.{DirectsView, first_of, has_place, has_room}
use Rattle.worker_calls.proofs.TableLemmas.{find-push, roomy-push, and-right}
use Rattle.worker_calls.proofs.directs.Directs.add.Goals as goal

pub invariant_of-self : goal.invariant_of-self
invariant_of-self c =
    let key : ProducerKey = record { router = c.args.router; producer = c.args.producer } in
    let room : has_room c.self.inside.keys c.self.inside.earliest ≡ true =
    and-right (has_place c.self.inside.keys) (has_room c.self.inside.keys c.self.inside.earliest) (ap (λ (v : DirectsView). v.has_room) c.self.view_is ∙ c.requires)
    in
    record {
      by_id =
          λ id.
          c.note.ensures.table id
          ∙ (ap (λ (o : Option ProducerKey). first_of o (cond (same_id key.producer id) (Some key) None)) (c.self.invariant.by_id id)
          ∙ (find-push (λ (k : ProducerKey). same_id k.producer id) c.self.inside.keys.items key ∙ ap (find (λ (k : ProducerKey). same_id k.producer id)) (sym c.push_reserved.ensures.items)));
      room = roomy-push c.self.inside.earliest c.note.new.table c.self.inside.keys.items c.push_reserved.new.self.items key c.push_reserved.ensures.items c.self.invariant.room c.note.ensures.entries c.note.ensures.room room;
    }
