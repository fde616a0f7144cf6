use Rattle.std.proofs.Common.{◌≡◌, ◌&&◌, Bool, true, Option, Some, None, cond, nat_eq, ap, sym, ◌∙◌, find}
use Rattle.worker_calls.specs.State.{LinkAt, same_place}
use Rattle.worker_calls.specs.Tables.{LinksView, first_of, has_place, has_room}
use Rattle.worker_calls.proofs.TableLemmas.{find-push, roomy-push, and-left, and-right}
use Rattle.worker_calls.proofs.links.Links.add.Goals as goal

pub invariant_of-self : goal.invariant_of-self
invariant_of-self c =
    let link : LinkAt = record { link = c.args.number; place = c.args.place } in
    let rooms : (has_room c.self.inside.links c.self.inside.by_number && has_room c.self.inside.links c.self.inside.by_place) ≡ true =
    and-right (has_place c.self.inside.links) (has_room c.self.inside.links c.self.inside.by_number && has_room c.self.inside.links c.self.inside.by_place) (ap (λ (v : LinksView). v.has_room) c.self.view_is ∙ c.requires)
    in
    record {
      by_number =
          λ n.
          c.note_number.ensures.table n
          ∙ (ap (λ (o : Option LinkAt). first_of o (cond (nat_eq link.link n) (Some link) None)) (c.self.invariant.by_number n)
          ∙ (find-push (λ (k : LinkAt). nat_eq k.link n) c.self.inside.links.items link ∙ ap (find (λ (k : LinkAt). nat_eq k.link n)) (sym c.push_reserved.ensures.items)));
      by_place =
          λ p.
          c.note_place.ensures.table p
          ∙ (ap (λ (o : Option LinkAt). first_of o (cond (same_place link.place p) (Some link) None)) (c.self.invariant.by_place p)
          ∙ (find-push (λ (k : LinkAt). same_place k.place p) c.self.inside.links.items link ∙ ap (find (λ (k : LinkAt). same_place k.place p)) (sym c.push_reserved.ensures.items)));
      numbers_room =
          roomy-push c.self.inside.by_number c.note_number.new.table c.self.inside.links.items c.push_reserved.new.self.items link c.push_reserved.ensures.items c.self.invariant.numbers_room c.note_number.ensures.entries c.note_number.ensures.room
          (and-left (has_room c.self.inside.links c.self.inside.by_number) (has_room c.self.inside.links c.self.inside.by_place) rooms);
      places_room =
          roomy-push c.self.inside.by_place c.note_place.new.table c.self.inside.links.items c.push_reserved.new.self.items link c.push_reserved.ensures.items c.self.invariant.places_room c.note_place.ensures.entries c.note_place.ensures.room
          (and-right (has_room c.self.inside.links c.self.inside.by_number) (has_room c.self.inside.links c.self.inside.by_place) rooms);
    }
