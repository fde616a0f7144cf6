use Rattle.std.proofs.Common.{◌≡◌, List, find, slice_get, refl, subst}
use Rattle.std.specs.Option.{option_copied_mut}
use Rattle.worker_router.specs.State.{same_id}
use Rattle.worker_calls.specs.State.{RouterAt}
use Rattle.worker_calls.proofs.PlaceLemmas.{lent-at, put-at}
use Rattle.worker_calls.proofs.routers.Routers.get_mut.Goals as goal

pub returns : goal.returns
returns c =
    let stood : slice_get c.args.self.now c.in_ok-index.index ≡ find (λ (x : RouterAt). same_id x.id c.args.id) c.args.self.now =
    subst (λ (xs : List RouterAt). slice_get xs c.in_ok-index.index ≡ find (λ x. same_id x.id c.args.id) xs) c.self.view_is c.in_ok-index.ensures
    in (
      (
        refl,
        λ w. put-at c.args.id c.self.inside.routers c.args.self.now c.self.view_is c.in_ok-index.index stood w c.get_index_mut.result c.get_index_mut.ensures.unique c.get_index_mut.ensures.value,
        c.self.view_is,
      ),
      record {
        lends = tt;
        value = lent-at c.args.id c.self.inside.routers c.args.self.now c.self.view_is c.in_ok-index.index stood (option_copied_mut c.get_index_mut.result) c.get_index_mut.ensures.value;
      },
    )
