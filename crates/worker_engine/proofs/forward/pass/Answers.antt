use Rattle.std.proofs.Common.{◌≡◌, ℕ, ◌++◌, List, take, drop, option_map, subst, sym, arith}
use Rattle.std.specs.Prelude.{IfSome}
use Rattle.std.proofs.lemmas.List.{drop_at}
use Rattle.worker_engine.specs.Forwarding.{passed_one}
use Rattle.worker_engine.proofs.forward.pass.Goals as goal

pub returns-clause-packet : goal.returns-clause-packet
returns-clause-packet c =
    let behind : drop 41 (c.split_at_mut-head.result.0.now ++ c.pass_to.new.into) ≡ c.pass_to.new.into =
    drop_at c.split_at_mut-head.result.0.now c.pass_to.new.into 41 (omega (arith, c.split_at_mut-head.ensures.front_len)) in
    subst (λ (t : List ℕ). IfSome c.pass_to.result (λ p. option_map (λ n. take n t) p.length ≡ passed_one c.args.incoming.now p.consumer c.args.worker.now)) (sym behind) c.pass_to.ensures.packet
