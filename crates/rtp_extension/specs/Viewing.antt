-- What the code has in hand while it reads and writes. This project's own.
use Rattle.std.specs.Prelude.{◌≡◌, ℕ, ◌+◌, ◌≤◌, List, ◌++◌, length, take, drop, Some}
use denote.Ref.{Bor}
use Rattle.rtp_extension.specs.declared.form.Form.{Form}
use Rattle.rtp_extension.specs.Elements.{Element, spelled}
use Rattle.rtp_extension.specs.Reading.{element_at}

-- an element without where its data lies in memory
abbrev pub element_value : ℕ × Bor (List ℕ) → Element
element_value e = (e.0, e.1.now)

-- an element stands at the front of these bytes, and the rest behind it
pub record IsSplit (form : Form) (bytes : List ℕ) (id : ℕ) (content rest : List ℕ) : Type 0 where
  pub element : element_at form bytes ≡ Some (id, content)
  pub rest_is : rest ≡ drop (length (spelled form (id, content))) bytes

-- so many bytes of data stand at the front of these, and the rest behind them
pub record IsDataSplit (id len : ℕ) (bytes : List ℕ) (same : ℕ) (content rest : List ℕ) : Type 0 where
  pub same_id : same ≡ id
  pub data_is : content ≡ take len bytes
  pub data_len : length content ≡ len
  pub rest_is : rest ≡ drop len bytes
  pub fits : len ≤ length bytes

-- these bytes were written into a buffer from one place to another, and all others of it stayed
pub record Wrote (bytes old new : List ℕ) (at end : ℕ) : Type 0 where
  pub end_is : end ≡ at + length bytes
  pub new_is : new ≡ take at old ++ (bytes ++ drop end old)
