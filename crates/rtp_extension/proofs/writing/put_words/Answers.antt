use Rattle.std.proofs.Common.{◌+◌, ◌≤◌, ℕ, List, length, Some, arith}
use Rattle.rtp_extension.specs.Elements.{spelling}
use Rattle.rtp_extension.specs.Reading.{elements_in}
use Rattle.rtp_extension.specs.Ids.{kept_id}
use Rattle.rtp_extension.specs.Rewriting.{kept, in_words}
use Rattle.rtp_extension.proofs.Kept.{words_len}
use Rattle.rtp_extension.proofs.Writes.{zeros_fit, words_written}
use Rattle.rtp_extension.proofs.writing.put_words.Goals as goal

pub put-requires : goal.put-requires
put-requires c =
    let bytes : List ℕ = spelling c.args.form (kept (kept_id c.args.map.now c.args.only.now) c.args.form (elements_in c.args.form c.args.words.now)) in
    let fits : length (in_words bytes) ≤ length c.args.words.now =
    (words_len (kept_id c.args.map.now c.args.only.now) (Some c.args.form) c.args.words.now (λ i. omega (arith, c.type_inv.words i)) c.requires.whole).0 in
    let within : c.args.at + length c.args.words.now ≤ length c.put_kept-end.new.into = omega arith in
    record { room = zeros_fit bytes c.put_kept-end.new.into c.args.at c.put_kept-end.result c.missing_bytes.result (length c.args.words.now) c.put_kept-end.ensures.end_is c.missing_bytes.ensures.number fits within }

pub returns-clause-written : goal.returns-clause-written
returns-clause-written c =
    let bytes : List ℕ = spelling c.args.form (kept (kept_id c.args.map.now c.args.only.now) c.args.form (elements_in c.args.form c.args.words.now)) in
    words_written bytes c.args.into.now c.put_kept-end.new.into c.put.new.into c.args.at c.put_kept-end.result c.missing_bytes.result c.put.result (length c.args.words.now) c.missing_bytes.ensures.number
    (words_len (kept_id c.args.map.now c.args.only.now) (Some c.args.form) c.args.words.now (λ i. omega (arith, c.type_inv.words i)) c.requires.whole).0
    c.requires.room c.put_kept-end.ensures c.put.ensures

pub returns-clause-no_longer : goal.returns-clause-no_longer
returns-clause-no_longer c =
    omega (
      arith,
      (returns-clause-written c).end_is,
      (words_len (kept_id c.args.map.now c.args.only.now) (Some c.args.form) c.args.words.now (λ i. omega (arith, c.type_inv.words i)) c.requires.whole).0,
    )
