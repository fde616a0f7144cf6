use Rattle.reply_contents.proofs.LawLemmas.{address_back}
use Rattle.reply_contents.proofs.laws.address_is_read.Goals as goal

pub returns : goal.returns
returns c = address_back c.args.ip.now c.requires (λ i. (c.type_inv.ip i).fits)
