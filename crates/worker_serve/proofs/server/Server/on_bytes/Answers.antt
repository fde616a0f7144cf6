use Rattle.std.proofs.Common.{◌≡◌, ◌++◌, [], List, ℕ, false}
use Rattle.channel_frames.specs.Frames.{frames, is_broken}
use Rattle.channel_frames.specs.Reading.{drained, with_piece}
use Rattle.worker_serve.specs.Hearing.{IsReadTo, IsTrueOf, IsTrueOfDrained}
use Rattle.worker_serve.proofs.HearingLemmas.{break_on, read_on}
use Rattle.worker_serve.proofs.SendingLemmas.{err_so, ok_here, ok_so}
use Rattle.worker_serve.proofs.server.Server.on_bytes.Goals as goal

pub returns-clause-read : goal.returns-clause-read
returns-clause-read g c =
    let old = c.args.self.now.reader in
    let fed = c.feed.new.self in
    let now = c.on_payloads.new.self.reader in
    let bytes = c.args.bytes.now in
    let is = ok_here (fed ≡ with_piece old bytes) c.feed.result c.if-is_err.ensures.value c.feed.ensures.ok in
    ok_so (frames now.unread ≡ []) (is_broken fed.unread ≡ false) ((stream : List ℕ) → IsReadTo old stream → IsReadTo now (stream ++ bytes))
    (λ none unbroken stream read.
    read_on c.readings_go_on_from_what_is_left.ensures.piece old fed now stream bytes is c.on_payloads.ensures.drained none unbroken read)
    c.on_payloads.result c.on_payloads.ensures.none_left c.on_payloads.ensures.unbroken

pub returns-clause-too_long : goal.returns-clause-too_long
returns-clause-too_long g c =
    let old = c.args.self.now.reader in
    let fed = c.feed.new.self in
    let bytes = c.args.bytes.now in
    let is = ok_here (fed ≡ with_piece old bytes) c.feed.result c.if-is_err.ensures.value c.feed.ensures.ok in
    err_so (IsTrueOfDrained (drained fed)) (λ f. (stream : List ℕ) → IsReadTo old stream → IsTrueOf (stream ++ bytes) f)
    (λ f told stream read. break_on c.readings_go_on_from_what_is_left.ensures.piece old fed stream bytes f is told read)
    c.on_payloads.result c.on_payloads.ensures.too_long
