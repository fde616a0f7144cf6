use Rattle.std.proofs.Common.{◌≡◌, ◌∷◌, ◌++◌, OnOk, codes, subst}
use Rattle.hex.specs.Hex.{encode_lower}
use Rattle.ms_base.specs.Words.{space}
use Rattle.worker_play.specs.Written.{outcome, call_words}
use Rattle.worker_play.proofs.TextLemmas.{joined}
use Rattle.worker_play.proofs.write.write_call.Goals as goal

pub returns-in_ok-extend_from_slice-in-Channel : goal.returns-in_ok-extend_from_slice-in-Channel
returns-in_ok-extend_from_slice-in-Channel c =
    let front = c.in_ok-extend_from_slice-in-Channel.ensures.ok in
    let same : c.extend_from_slice-in-Channel.new.self ++ space ∷ encode_lower c.as_slice.result.now ++ outcome c.in-Channel.failed ≡ c.args.into.now ++ call_words c.args.call.now =
    rw (front, c.as_slice.ensures, c.in-Channel.is) (joined c.args.into.now (codes "channel") (space ∷ encode_lower c.in-Channel.frame) (outcome c.in-Channel.failed)) in
    subst (λ t. OnOk c.push_bytes.result (c.push_bytes.new.into ≡ t)) same c.push_bytes.ensures
