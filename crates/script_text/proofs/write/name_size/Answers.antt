use Rattle.std.proofs.Common.{◌≡◌, ◌≤◌, length, ap, arith}
use Rattle.script_text.proofs.Rests.{name_is_short}
use Rattle.script_text.proofs.write.name_size.Goals as goal

pub returns-clause-few : goal.returns-clause-few
returns-clause-few c =
    let short : length c.args.name.now ≤ 64 = name_is_short c.args.name.now c.as_slice.ensures.form in
    let same : length c.as_slice.result.now ≡ length c.args.name.now = ap length c.as_slice.ensures.value in
    omega arith
