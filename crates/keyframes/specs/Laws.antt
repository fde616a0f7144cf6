-- The tests that compute answer exactly what the grammars ask.
use Rattle.std.specs.Prelude.{ℕ, ◌<◌, List, ◌↔◌, IsTrue}
use Rattle.std.specs.List.{All}
use Rattle.keyframes.specs.Reading.{is_vp8_key_start, is_vp9_key_start}
use Rattle.keyframes.specs.Vp8.{Vp8StartsKey}
use Rattle.keyframes.specs.Vp9.{Vp9StartsKey}

abbrev pub AreBytes : List ℕ → Type 0
AreBytes payload = All (λ byte. byte < 256) payload

abbrev pub Vp8ReadingIsTheGrammar : Type 0
Vp8ReadingIsTheGrammar = (payload : List ℕ) → AreBytes payload → IsTrue (is_vp8_key_start payload) ↔ Vp8StartsKey payload

abbrev pub Vp9ReadingIsTheGrammar : Type 0
Vp9ReadingIsTheGrammar = (payload : List ℕ) → AreBytes payload → IsTrue (is_vp9_key_start payload) ↔ Vp9StartsKey payload
