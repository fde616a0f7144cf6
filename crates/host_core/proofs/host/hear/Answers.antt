use Rattle.std.proofs.Common.{◌≡◌, List, OnOk, ℕ, sym, ap, ◌∙◌, subst}
use Rattle.std.proofs.lemmas.Result.{on_ok_weaker}
use Rattle.ms_base.specs.declared.entry.Entry.{Entry}
use Rattle.ms_base.specs.declared.entry.Entry.TheVariants as entry
use Rattle.host_model.specs.Run.{after}
use Rattle.host_model.specs.State.{State}
use Rattle.host_model.specs.Step.{Awaits, Calls, Starting}
use Rattle.host_core.specs.Tables.{CanHear, IsHeld}
use Rattle.host_core.proofs.HostLemmas.{held-start, held-step}
use Rattle.host_core.proofs.host.hear.Goals as goal

pub hear_call-requires-clause-built : goal.hear_call-requires-clause-built
hear_call-requires-clause-built c = subst (CanHear c.args.tables.now c.args.readers.now) c.in-Call.is c.requires.can

pub hear_chunk-requires : goal.hear_chunk-requires
hear_chunk-requires c =
    subst (λ (bytes : List ℕ). CanHear c.args.tables.now c.args.readers.now (entry.Chunk c.in-Chunk.worker bytes)) (sym c.as_slice.ensures)
    (subst (CanHear c.args.tables.now c.args.readers.now) c.in-Chunk.is c.requires.can)

pub returns-in-Call-clause-ok : goal.returns-in-Call-clause-ok
returns-in-Call-clause-ok c =
    subst
    (λ (e : Entry). OnOk c.hear_call.result ((seed : ℕ) (s : State) → IsHeld seed s c.args.tables.now c.args.readers.now → IsHeld seed (after s e) c.hear_call.new.tables c.args.readers.now))
    (sym c.in-Call.is)
    (on_ok_weaker c.hear_call.result
    (held-step c.hosts_are_sound.ensures.step (Calls c.in-Call.lane c.in-Call.op) (λ s. c.streams_stand.ensures s (Calls c.in-Call.lane c.in-Call.op)) c.args.tables.now
    c.hear_call.new.tables c.args.readers.now)
    c.hear_call.ensures.ok)

pub returns-in-Await-clause-ok : goal.returns-in-Await-clause-ok
returns-in-Await-clause-ok c =
    let m = Awaits c.in-Await.lane c.in-Await.name c.in-Await.event c.in-Await.count in
    subst
    (λ (e : Entry). OnOk c.hear_await.result ((seed : ℕ) (s : State) → IsHeld seed s c.args.tables.now c.args.readers.now → IsHeld seed (after s e) c.hear_await.new.tables c.args.readers.now))
    (sym c.in-Await.is)
    (on_ok_weaker c.hear_await.result
    (held-step c.hosts_are_sound.ensures.step m (λ s. c.streams_stand.ensures s m) c.args.tables.now c.hear_await.new.tables c.args.readers.now)
    c.hear_await.ensures.ok)

pub returns-in-Spawned-clause-ok : goal.returns-in-Spawned-clause-ok
returns-in-Spawned-clause-ok c =
    subst
    (λ (e : Entry). OnOk c.hear_start.result ((seed : ℕ) (s : State) → IsHeld seed s c.args.tables.now c.args.readers.now → IsHeld seed (after s e) c.hear_start.new.tables c.args.readers.now))
    (sym c.in-Spawned.is)
    (on_ok_weaker c.hear_start.result
    (held-start c.hosts_are_sound.ensures.step c.in-Spawned.worker c.in-Spawned.up (λ s. c.streams_stand.ensures s (Starting c.in-Spawned.worker)) c.args.tables.now
    c.hear_start.new.tables c.args.readers.now)
    c.hear_start.ensures.ok)

pub returns-in-Chunk-clause-ok : goal.returns-in-Chunk-clause-ok
returns-in-Chunk-clause-ok c =
    let e : entry.Chunk c.in-Chunk.worker c.as_slice.result.now ≡ c.args.entry.now = ap (λ (bytes : List ℕ). entry.Chunk c.in-Chunk.worker bytes) c.as_slice.ensures ∙ sym c.in-Chunk.is in
    subst
    (λ (e : Entry). OnOk c.hear_chunk.result ((seed : ℕ) (s : State) → IsHeld seed s c.args.tables.now c.args.readers.now → IsHeld seed (after s e) c.hear_chunk.new.tables c.hear_chunk.new.readers))
    e c.hear_chunk.ensures.ok
