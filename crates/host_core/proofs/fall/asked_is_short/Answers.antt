use Rattle.host_core.proofs.ShortLemmas.{asked_short}
use Rattle.host_core.proofs.fall.asked_is_short.Goals as goal

pub returns : goal.returns
returns c =
    asked_short c.args.asked.now c.args.ids c.args.id
    (record { router = c.id_is_short.ensures; transport = c.id_is_short-2.ensures; producer = c.id_is_short-3.ensures; consumer = c.id_is_short-4.ensures })
    c.ranges.id.fits
