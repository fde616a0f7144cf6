use Rattle.std.proofs.Common.{◌≡◌, ◌+◌, List, [], ◌∷◌, ◌++◌, length, false, sym, ap, ◌∙◌}
use Rattle.ms_base.specs.declared.entry.Entry.{Entry}
use Rattle.journal_text.specs.Written.{entry_line, journal_size}
use Rattle.host_model.specs.Run.{HostView, with_entry, after, state_of, notes_of}
use Rattle.host_core.specs.Apply.{is_unbuilt, size_with}
use Rattle.host_core.specs.Tables.{IsHeld}
use Rattle.host_core.proofs.RunLemmas.{journal, run-room, run-more, built-heard, goes-on}
use Rattle.host_core.proofs.host.Host.enter.Goals as goal

pub hear-requires-clause-room : goal.hear-requires-clause-room
hear-requires-clause-room c =
    let h = c.self.inside in
    let unspent : h.spent ≡ false = ap (λ (x : HostView). x.spent) c.self.view_is ∙ c.requires.open in
    let j = journal h.seed h.journal.items in
    run-room j h.spent h.size h.tables h.readers (c.draws_are_bounded.ensures.draws j c.self.invariant.seed_fits) unspent c.self.invariant

pub hear-requires-clause-can : goal.hear-requires-clause-can
hear-requires-clause-can c =
    let h = c.self.inside in
    let unspent : h.spent ≡ false = ap (λ (x : HostView). x.spent) c.self.view_is ∙ c.requires.open in
    built-heard c.frames_of_a_cut_stream.ensures.broken c.args.entry h.seed (state_of (journal h.seed h.journal.items)) h.tables h.readers (c.self.invariant.held unspent)
    (ap (λ (x : HostView). is_unbuilt (state_of x.journal) c.args.entry) c.self.view_is ∙ c.requires.built)

pub invariant_of-self-2 : goal.invariant_of-self-2
invariant_of-self-2 c =
    let h = c.self.inside in
    let s = state_of (journal h.seed h.journal.items) in
    let unspent : h.spent ≡ false = ap (λ (x : HostView). x.spent) c.self.view_is ∙ c.requires.open in
    let longer = c.push_reserved.ensures.items ∙ ap (λ (es : List Entry). es ++ c.args.entry ∷ []) c.reserve.ensures.items in
    let grown : c.args.size ≡ journal_size h.seed h.journal.items + length (entry_line c.args.entry) =
    c.requires.size ∙ ap (λ (x : HostView). size_with x.journal c.args.entry) (sym c.self.view_is) in
    let held : IsHeld h.seed (after s c.args.entry) c.hear.new.tables c.hear.new.readers =
    goes-on _ c.hear.result c.is_err-2.result c.is_err-2.ensures.value c.if-is_err-2.false c.hear.ensures.ok h.seed s (c.self.invariant.held unspent) in
    run-more c.journals_go_on.ensures.state h.seed h.journal.items c.push_reserved.new.self.items c.args.entry h.spent c.args.size c.hear.new.tables c.show.new.self
    c.hear.new.readers c.self.invariant.seed_fits longer grown c.requires.limit held c.show.ensures

pub returns-clause-end_note : goal.returns-clause-end_note
returns-clause-end_note c =
    let h = c.self.inside in
    let longer = c.push_reserved.ensures.items ∙ ap (λ (es : List Entry). es ++ c.args.entry ∷ []) c.reserve.ensures.items in
    let all : c.hear.new.tables.notes ≡ notes_of (journal h.seed (h.journal.items ++ c.args.entry ∷ [])) =
    (invariant_of-self-2 c).notes_are ∙ ap (λ (es : List Entry). notes_of (journal h.seed es)) longer in
    c.len.ensures ∙ ap length (all ∙ ap (λ (x : HostView). notes_of (with_entry x.journal c.args.entry)) c.self.view_is)
