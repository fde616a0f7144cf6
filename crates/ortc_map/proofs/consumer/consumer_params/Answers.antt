use Rattle.std.proofs.Common.{subst}
use Rattle.ortc_map.specs.Rules.{Gives}
use Rattle.ortc_map.proofs.ConsumerLemmas.{received_is}
use Rattle.ortc_map.proofs.consumer.consumer_params.Goals as goal

pub returns : goal.returns
returns c =
    let same = received_is c.args.consumable.now c.args.caps.now c.args.first_ssrc c.in_ok-codecs.codecs.items c.in_ok-exts.exts.items (cc c.in_ok-exts.ensures) (cc c.in_ok-codecs.ensures) in
    subst (Gives c.received.result) same c.received.ensures
