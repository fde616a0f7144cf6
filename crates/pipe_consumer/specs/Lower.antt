-- What the crate below promises of one stream.
use Rattle.simple_consumer.specs.Laws.{EmissionsAreOfTheWholeList, EachPassGoesOn}

pub record StreamLaws : Type 0 where
  pub whole : EmissionsAreOfTheWholeList
  pub going : EachPassGoesOn
