use Rattle.host_model.proofs.RequestLemmas.{last-rises, replies-stay, requests-stay, starts-stay}
use Rattle.host_model.proofs.settled.settled_requests_stay_settled.Goals as goal

pub returns-clause-stay : goal.returns-clause-stay
returns-clause-stay c = requests-stay

pub returns-clause-last : goal.returns-clause-last
returns-clause-last c = last-rises

pub returns-clause-replies : goal.returns-clause-replies
returns-clause-replies c = replies-stay

pub returns-clause-starts : goal.returns-clause-starts
returns-clause-starts c = starts-stay c.built_fits.ensures
