use Rattle.simple_consumer.proofs.TableLemmas.{exts-added}
use Rattle.simple_consumer.proofs.tables.exts_of.Goals as goal

pub loop-ext-preserved : goal.loop-ext-preserved
loop-ext-preserved c =
    exts-added c.loop-ext.exts c.add.new.self c.as_slice-ext-items.result.now c.loop-ext.ext-index c.ext-item.result c.loop-ext-test.true c.ext-item.is c.loop-ext.invariant
    c.add.ensures.added c.add.ensures.others
