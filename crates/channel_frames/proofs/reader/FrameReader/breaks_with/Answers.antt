use Rattle.std.proofs.Common.{◌-◌, List, ℕ, length, take, drop, ap, ◌∙◌}
use Rattle.channel_frames.specs.Frames.{begins_with_frame}
use Rattle.channel_frames.specs.Reading.{Reading}
use Rattle.channel_frames.proofs.FramesLemmas.{no_frame-rest_of}
use Rattle.channel_frames.proofs.ReaderLemmas.{sliced, breaks-behind}
use Rattle.channel_frames.proofs.reader.FrameReader.breaks_with.Goals as goal

pub breaks-requires : goal.breaks-requires
breaks-requires c = ap (λ (l : List ℕ). begins_with_frame l) c.rest_of.ensures ∙ no_frame-rest_of _

pub returns : goal.returns
returns c =
    c.breaks.ensures
    ∙ breaks-behind c.args.self.now.unread
    (take (length c.deref.result.now - c.self.inside.start) (drop c.self.inside.start c.deref.result.now))
    c.rest_of.result.now c.args.piece.now
    (sliced c.self.inside.buffer.items c.deref.result.now c.self.inside.start c.deref.ensures.value
    ∙ ap (λ (r : Reading). r.unread) c.self.view_is)
    c.rest_of.ensures
