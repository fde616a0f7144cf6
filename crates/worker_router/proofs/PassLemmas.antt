-- What a packet leaves of a Consumer.
use Rattle.std.proofs.Common.{◌≡◌, Option, Some, None, refl}
use Rattle.simple_consumer.specs.Sending.{Offer}
use Rattle.worker_router.specs.State.{Sink}
use Rattle.worker_router.specs.Calls.{after_offer}
use Rattle.worker_router.specs.Tables.{outlet_of}

pub after-keeps : (o : Option Offer) (s : Sink) → outlet_of (after_offer o s) ≡ outlet_of s
after-keeps None s = refl
after-keeps (Some o) s = refl
