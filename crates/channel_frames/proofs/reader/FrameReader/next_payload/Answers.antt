use Rattle.std.proofs.Common.{◌-◌, List, ℕ, length, take, drop, sym, ap, ◌∙◌}
use Rattle.channel_frames.specs.Frames.{begins_with_frame}
use Rattle.channel_frames.proofs.FramesLemmas.{first_of}
use Rattle.channel_frames.proofs.ReaderLemmas.{sliced, as-seen, answers-none, answers-refused, answers-handed}
use Rattle.channel_frames.proofs.reader.FrameReader.next_payload.Goals as goal

pub returns-in_default : goal.returns-in_default
returns-in_default c =
    answers-none c.args.self.now c.self.inside.place
    (take (length c.deref.result.now - c.self.inside.start) (drop c.self.inside.start c.deref.result.now)) c.without_payload.result
    (as-seen c.self.inside.buffer.items c.deref.result.now c.self.inside.start c.self.inside.place c.args.self.now c.deref.ensures.value c.self.view_is)
    c.in_default.ensures c.without_payload.ensures

pub returns-in_err-payload : goal.returns-in_err-payload
returns-in_err-payload c =
    answers-refused c.args.self.now c.self.inside.place
    (take (length c.deref.result.now - c.self.inside.start) (drop c.self.inside.start c.deref.result.now)) c.from_residual.result
    (as-seen c.self.inside.buffer.items c.deref.result.now c.self.inside.start c.self.inside.place c.args.self.now c.deref.ensures.value c.self.view_is)
    c.in-Some.ensures.0 c.from_residual.ensures.1

pub returns : goal.returns
returns c =
    let whole = sliced c.self.inside.buffer.items c.deref.result.now c.self.inside.start c.deref.ensures.value in
    answers-handed c.args.self.now c.self.inside.buffer.items c.self.inside.start c.self.inside.place c.in_ok-payload.payload
    c.len-size.result c.saturating_add-self-inside.result c.self.view_is
    (ap (λ (l : List ℕ). begins_with_frame l) (sym whole) ∙ c.in-Some.ensures.0)
    (c.in_ok-payload.ensures ∙ c.in-Some.ensures.1 ∙ ap (λ (l : List ℕ). first_of l) whole)
    c.len-size.ensures c.saturating_add-self-inside.ensures
