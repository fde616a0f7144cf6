use Rattle.host_requests.proofs.TableLemmas.{at-more}
use Rattle.host_requests.proofs.by_object.ByObject.at_any.Goals as goal

pub loop-object-preserved : goal.loop-object-preserved
loop-object-preserved c = record {
  has = λ n. at-more n c.args.self.now c.args.objects.now c.loop-object.object-index _ _ c.loop-object-test.true (c.in_ok-add_at.ensures.0 n) (c.loop-object.invariant.has n);
  in_order = c.in_ok-add_at.ensures.1;
}
