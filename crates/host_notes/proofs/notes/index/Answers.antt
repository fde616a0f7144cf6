use Rattle.std.proofs.Common.{Some, ◌++◌, sym, ap, ◌∙◌}
use Rattle.std.proofs.lemmas.Result.{on_ok_weaker}
use Rattle.host_notes.specs.Sent.{sent_in}
use Rattle.host_notes.proofs.NotesLemmas.{indexed-sent, indexed-placed, sends-nothing}
use Rattle.host_notes.proofs.notes.index.Goals as goal

pub returns-in-Sent-clause-ok : goal.returns-in-Sent-clause-ok
returns-in-Sent-clause-ok c =
    on_ok_weaker c.append.result
    (indexed-sent c.args.notes.now c.args.next.now c.args.places.now c.args.sent.now c.append.new.self c.in-Sent.worker c.as_slice.result.now
    (ap sent_in c.in-Sent.is ∙ ap (λ b. Some (c.in-Sent.worker, b)) (sym c.as_slice.ensures)) c.requires.indexed)
    c.append.ensures.ok

pub returns-in-SentRtp-clause-ok : goal.returns-in-SentRtp-clause-ok
returns-in-SentRtp-clause-ok c =
    on_ok_weaker c.append-in-SentRtp.result
    (indexed-sent c.args.notes.now c.args.next.now c.args.places.now c.args.sent.now c.append-in-SentRtp.new.self c.in-SentRtp.worker (c.packet_head.result ++ c.as_slice-in-SentRtp.result.now)
    (ap sent_in c.in-SentRtp.is ∙ (λ i. Some (c.in-SentRtp.worker, sym c.packet_head.ensures i ++ sym c.as_slice-in-SentRtp.ensures i))) c.requires.indexed)
    c.append-in-SentRtp.ensures.ok

pub returns-in_default-clause-ok : goal.returns-in_default-clause-ok
returns-in_default-clause-ok c =
    on_ok_weaker c.keep_place.result
    (indexed-placed c.args.notes.now c.args.next.now c.args.places.now c.keep_place.new.places c.args.sent.now
    (sends-nothing c.args.next.now c.in_default.not-Sent c.in_default.not-SentRtp) c.requires.indexed)
    c.keep_place.ensures.ok
