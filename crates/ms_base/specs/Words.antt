-- How words and numbers stand in the texts of journals and transcripts (this project's own): behind one space
-- each, numbers as decimal digits, bytes as two lower-case hexadecimal digits each.
use Rattle.std.specs.Prelude.{◌≡◌, ℕ, List, ◌∷◌, ◌++◌, length, take, decimal}
use Rattle.std.specs.Net.Text.{ipv4_text}
use Rattle.ms_base.specs.declared.keys.WorkerKey.{WorkerKey}

abbrev pub space : ℕ
space = 32

abbrev pub line_feed : ℕ
line_feed = 10

-- a number behind its space
abbrev pub spaced : ℕ → List ℕ
spaced n = space ∷ decimal n

-- a slot and a generation, each behind its space
abbrev pub worker_words : WorkerKey → List ℕ
worker_words worker = spaced worker.slot ++ spaced worker.generation

-- an IPv4 address: its four octets with dots between them
abbrev pub ip_text : List ℕ → List ℕ
ip_text octets = ipv4_text octets

-- the bytes before are a front of those now
abbrev pub IsFrontOf : List ℕ → List ℕ → Type 0
IsFrontOf before now = take (length before) now ≡ before
