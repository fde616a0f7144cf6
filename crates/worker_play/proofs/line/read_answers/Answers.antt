use Rattle.worker_play.specs.Reading.{IsAnswer}
use Rattle.worker_play.proofs.LineLemmas.{no_zip, zip_more}
use Rattle.worker_play.proofs.line.read_answers.Goals as goal

pub returns-in_default : goal.returns-in_default
returns-in_default c = no_zip IsAnswer c.args.words.now c.loop-word.word-index _ c.loop-word-test.true c.in_default.ensures

pub loop-word-preserved : goal.loop-word-preserved
loop-word-preserved c =
    zip_more IsAnswer c.args.words.now c.loop-word.word-index _ c.loop-word.answers.items c.push.new.self.items c.in-Some.answer
    c.loop-word-test.true c.loop-word.invariant c.in-Some.ensures c.in_ok-push.ensures.items
