use Rattle.std.proofs.Common.{ℕ, List, ap}
use Rattle.channel_frames.specs.Frames.{told_length}
use Rattle.channel_frames.proofs.FramesLemmas.{frames-append, rest_of-append, is_broken-append, new_frames-rest}
use Rattle.channel_frames.proofs.BreakLemmas.{break_place-append}
use Rattle.channel_frames.proofs.laws.frames_of_a_cut_stream.Goals as goal

pub returns-clause-payloads : goal.returns-clause-payloads
returns-clause-payloads c = frames-append

pub returns-clause-rest : goal.returns-clause-rest
returns-clause-rest c = rest_of-append

pub returns-clause-broken : goal.returns-clause-broken
returns-clause-broken c = is_broken-append

pub returns-clause-place : goal.returns-clause-place
returns-clause-place c = break_place-append

pub returns-clause-told : goal.returns-clause-told
returns-clause-told c = λ first later. ap (λ (r : List ℕ). told_length r) (rest_of-append first later)

pub returns-clause-fresh : goal.returns-clause-fresh
returns-clause-fresh c = new_frames-rest
