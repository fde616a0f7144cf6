use Rattle.std.proofs.Common.{lit<, Some, None}
use Rattle.std.proofs.lemmas.Str.Pattern.{split_once_first}
use Rattle.rtp_params.proofs.CodecLemmas.{no_slash}
use Rattle.rtp_params.proofs.read.codec.split_at_slash.Goals as goal

pub returns-in-Some : goal.returns-in-Some
returns-in-Some c =
    let cut = split_once_first 47 c.args.text.now (Some (c.in-Some.front, c.in-Some.behind)) c.in-Some.ensures.cases (lit< tt) in
    record { front = cut.1; behind = cut.2 }

pub returns-in-None : goal.returns-in-None
returns-in-None c =
    let none = no_slash c.args.text.now (split_once_first 47 c.args.text.now None c.in-None.ensures.cases (lit< tt)) in
    record { front = none.0; behind = none.1 }
