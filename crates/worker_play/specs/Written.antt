-- The calls on a worker's outbox, as text (this project's own): a line for each, and at the end the worker's status.
use Rattle.std.specs.Prelude.{◌≡◌, ℕ, Bool, true, false, List, [], ◌∷◌, ◌++◌, codes, flat_map, Option, Some, None}
use Rattle.std.specs.Net.Text.{dotted_text}
use Rattle.hex.specs.Hex.{encode_lower}
use Rattle.ms_base.specs.Words.{space, line_feed, spaced}
use Rattle.ms_devices.specs.declared.events.MemEvent.{MemEvent}
use Rattle.ms_devices.specs.declared.events.OutCall.{OutCall}
use Rattle.ms_devices.specs.declared.events.OutCall.TheVariants as call
use Rattle.worker_serve.specs.Serving.{WorkerOutside}
use Rattle.run_top.specs.Worker.{IsWorker}
use Rattle.worker_play.specs.Reading.{lines, HasLines}

-- an address by its four octets
abbrev pub address : List ℕ → List ℕ
address (a ∷ b ∷ c ∷ d ∷ []) = dotted_text a b c d
address other = []

-- the port that a `bind` was answered
abbrev pub port_word : Option ℕ → List ℕ
port_word None = space ∷ codes "failed"
port_word (Some port) = spaced port

-- ` failed` behind a call that failed
abbrev pub outcome : Bool → List ℕ
outcome true = space ∷ codes "failed"
outcome false = []

abbrev pub call_words : OutCall → List ℕ
call_words (call.Bind link ip port) = codes "bind" ++ spaced link ++ space ∷ address ip ++ port_word port
call_words (call.Shut link) = codes "shut" ++ spaced link
call_words (call.Channel frame failed) = codes "channel" ++ space ∷ encode_lower frame ++ outcome failed
call_words (call.Datagram link to packet failed) =
    codes "datagram" ++ spaced link ++ space ∷ address to.ip ++ spaced to.port ++ space ∷ encode_lower packet ++ outcome failed

abbrev pub call_line : OutCall → List ℕ
call_line one = call_words one ++ line_feed ∷ []

-- what is written of a run
abbrev pub played : List OutCall → ℕ → List ℕ
played calls status = flat_map call_line calls ++ codes "status" ++ spaced status ++ line_feed ∷ []

-- What is written of a text that can be read: the calls and the status of a worker to which nothing had been given, and which had made
-- no call. They are its output for what it was given; that this is what the text says isn't told by them.
pub record IsPlayed (text written : List ℕ) : Type 0 where
  pub answers : List (Option ℕ)
  pub events : List MemEvent
  pub calls : List OutCall
  pub status : ℕ
  pub before : WorkerOutside
  pub now : WorkerOutside
  pub has_lines : HasLines (lines text) answers events
  pub nothing_given : before.given ≡ Some []
  pub nothing_called : before.calls ≡ Some []
  pub told : now.calls ≡ Some calls
  pub is_worker : IsWorker status before now
  pub lines_of_calls : written ≡ played calls status
