-- The worker's table finds each method that the host has.
use Rattle.std.proofs.Common.{◌≡◌, ℕ, Option, Ok, refl}
use Rattle.serde_json.specs.Data.{Data}
use Rattle.worker_requests.specs.declared.asked.Asked.{Asked}
use Rattle.worker_requests.specs.declared.asked.Asked.TheVariants as asked
use Rattle.worker_requests.specs.Methods.{asked_of, consumer_ids, methods, producer_ids, router_id, transport_ids}
use Rattle.request_contents.specs.Methods.{ids_of, method_of}

pub asked_back : (a : Asked) (id : ℕ) (content : Option Data) → asked_of (record { id = id; method = method_of a; ids = ids_of a; content = content }) ≡ Ok a
unfolding methods router_id transport_ids producer_ids consumer_ids
asked_back (asked.CreateRouter ids) id content = refl
asked_back (asked.CloseRouter ids) id content = refl
asked_back (asked.CreatePlainTransport ids) id content = refl
asked_back (asked.CreatePipeTransport ids) id content = refl
asked_back (asked.CreateDirectTransport ids) id content = refl
asked_back (asked.CloseTransport ids) id content = refl
asked_back (asked.Connect ids) id content = refl
asked_back (asked.Produce ids) id content = refl
asked_back (asked.Consume ids) id content = refl
asked_back (asked.CloseProducer ids) id content = refl
asked_back (asked.PauseProducer ids) id content = refl
asked_back (asked.ResumeProducer ids) id content = refl
asked_back (asked.CloseConsumer ids) id content = refl
asked_back (asked.PauseConsumer ids) id content = refl
asked_back (asked.ResumeConsumer ids) id content = refl
