use Rattle.std.proofs.Common.{List, ℕ, ◌++◌, ap, ◌∙◌}
use Rattle.channel_frames.specs.Frames.{is_broken}
use Rattle.channel_frames.specs.Reading.{Reading}
use Rattle.host_core.specs.LookUps.{unread_in}
use Rattle.host_core.proofs.readers.Readers.breaks_with.Goals as goal

pub returns-in-Some : goal.returns-in-Some
returns-in-Some c = c.breaks_with.ensures ∙ ap (λ (b : List ℕ). is_broken (b ++ c.args.bytes.now)) (ap unread_in c.in-Some.ensures.value)

pub returns-in-None : goal.returns-in-None
returns-in-None c =
    c.breaks_with-in-None-2.ensures ∙ ap is_broken
    (ap (λ (r : Reading). r.unread ++ c.args.bytes.now) c.new.ensures ∙ ap (λ (b : List ℕ). b ++ c.args.bytes.now) (ap unread_in c.in-None.ensures.value))
