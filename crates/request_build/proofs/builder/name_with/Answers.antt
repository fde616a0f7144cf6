use Rattle.std.proofs.Common.{◌≡◌, ◌++◌, Err, ap, ◌∙◌, rules}
use Rattle.request_build.proofs.NameLemmas.{no_bad_name}
use Rattle.request_build.proofs.builder.name_with.Goals as goal

pub unreachable-requires : goal.unreachable-requires
unreachable-requires c =
    let bad = c.read.ensures.bad.0 (c.in-Err-BadName.is ∙ ap Err c.in-Err-BadName.field-0-is) in
    let same : c.as_slice-2.result.now ≡ c.args.name.now ++ c.args.ending.now = search rules in
    no_bad_name c.args.name.now c.args.ending.now c.as_slice-2.result.now c.as_slice.ensures.form c.requires.room c.requires.ending same bad
