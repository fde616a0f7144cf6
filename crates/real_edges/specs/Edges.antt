-- The adapters of the system's streams and sockets, as contracts see them (this project's own). What passes through
-- the streams and sockets of a worker is told by nobody.
use Rattle.std.specs.Prelude.{ℕ, ◌-◌, List, [], ◌∷◌, take, drop}
use Rattle.ms_base.specs.declared.tuple.Tuple.{Tuple}
use Rattle.real_edges.specs.declared.batch.Piece.{Piece}
use Rattle.ms_devices.specs.declared.events.TheConstants.{EVENT_BYTES}

-- a source or a sink: the stream, and how many of its reads or writes have failed
pub record StreamState (S : Type 0) : Type 0 where
  pub stream : S
  pub faults : ℕ

-- an outbox: the stream of the channel, and its two counts of faults
pub record OutboxState (W : Type 0) : Type 0 where
  pub channel : W
  pub channel_faults : ℕ
  pub link_faults : ℕ

-- a datagram that came by a link
pub record Came : Type 0 where
  pub link : ℕ
  pub from : Tuple
  pub bytes : List ℕ

-- the datagrams of a link whose bytes lie behind one another from a place on, each up to the end of its piece, and cut
-- after 65,536 bytes
abbrev pub datagrams : ℕ → List ℕ → ℕ → List Piece → List Came
datagrams link bytes place [] = []
datagrams link bytes place (piece ∷ pieces) =
    (record { link = link; from = piece.from; bytes = take EVENT_BYTES (take (piece.end - place) (drop place bytes)) })
    ∷ datagrams link bytes piece.end pieces
