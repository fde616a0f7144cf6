-- A packet whose elements have other ids. The form of the elements is that of RFC 8285, section 4; which of them are kept
-- is this project's own.
use Rattle.std.specs.Prelude.{ℕ, ◌-◌, ◌%◌, nat_le, if◌then◌else◌, List, [], ◌++◌, length, replicate, Option, Some, None}
use Rattle.std.specs.Option.{option_map, option_and_then}
use Rattle.std.specs.List.{filter_map}
use Rattle.rtp_packet.specs.Packet.{Fields}
use Rattle.rtp_extension.specs.declared.form.Form.{Form}
use Rattle.rtp_extension.specs.declared.form.Form.TheVariants.{OneByte, TwoByte}
use Rattle.rtp_extension.specs.Elements.{Element, form_of, spelling}
use Rattle.rtp_extension.specs.Reading.{elements_in, elements_of}

-- an id that the form can spell: the one-byte form has 14
abbrev pub usable : Form → ℕ → Option ℕ
usable OneByte id = if nat_le id 14 then Some id else None
usable TwoByte id = Some id

-- the element under its new id, if it has one that the form can spell
abbrev pub renamed : (ℕ → Option ℕ) → Form → Element → Option Element
renamed ids form e = option_map (λ id. (id, e.1)) (option_and_then (usable form) (ids e.0))

-- the elements that are kept, in order
abbrev pub kept : (ℕ → Option ℕ) → Form → List Element → List Element
kept ids form es = filter_map (renamed ids form) es

-- how many bytes are missing behind so many to the next multiple of four
abbrev pub missing : ℕ → ℕ
missing len = (4 - len % 4) % 4

-- whole words of four bytes, by bytes 0 at the end
abbrev pub in_words : List ℕ → List ℕ
in_words bytes = bytes ++ replicate (missing (length bytes)) 0

-- the words of an extension of this form; those of another profile stay
abbrev pub words_with : (ℕ → Option ℕ) → Option Form → List ℕ → List ℕ
words_with ids None words = words
words_with ids (Some form) words = in_words (spelling form (kept ids form (elements_in form words)))

-- an extension keeps its profile, and stays one where no element is kept
abbrev pub extension_with : (ℕ → Option ℕ) → Option (ℕ × List ℕ) → Option (ℕ × List ℕ)
extension_with ids extension = option_map (λ e. (e.0, words_with ids (form_of e.0) e.1)) extension

-- the packet with this extension, and all else as it was
abbrev pub with_ids : (ℕ → Option ℕ) → Fields → Fields
with_ids ids f = record f { extension = extension_with ids f.extension }

-- the elements of the rewritten extension
abbrev pub kept_under : (ℕ → Option ℕ) → Option Form → List Element → List Element
kept_under ids None es = []
kept_under ids (Some form) es = kept ids form es

abbrev pub kept_of : (ℕ → Option ℕ) → Option (ℕ × List ℕ) → List Element
kept_of ids None = []
kept_of ids (Some e) = kept_under ids (form_of e.0) (elements_of (Some e))
