use Rattle.ortc_map.proofs.ConsumerLaws.{yes, otherwise, same_of_one}
use Rattle.ortc_map.proofs.consumer_laws.what_can_be_consumed_is_not_refused.Goals as goal

pub returns-clause-yes : goal.returns-clause-yes
returns-clause-yes c = yes

pub returns-clause-otherwise : goal.returns-clause-otherwise
returns-clause-otherwise c = otherwise

pub returns-clause-of_one : goal.returns-clause-of_one
returns-clause-of_one c = same_of_one
