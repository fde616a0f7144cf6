-- How the rules of a call go on: one after another, and the first refusal counts (this project's own).
use Rattle.std.specs.Prelude.{◌≡◌, Bool, if◌then◌else◌, Option, Some, None, Result, Ok, Err, ⊤}
use Rattle.ms_base.specs.declared.outcome.Outcome.{Outcome}
use Rattle.ms_base.specs.declared.outcome.Outcome.TheVariants as outcome
use Rattle.call_options.specs.declared.fault.OptionFault.{OptionFault}
use Rattle.call_options.specs.declared.fault.OptionFault.TheVariants as option
use Rattle.ortc_map.specs.declared.fault.MapFault.{MapFault}
use Rattle.ortc_map.specs.declared.fault.MapFault.TheVariants as map
use Rattle.request_build.specs.declared.built.BuildFault.{BuildFault}
use Rattle.request_build.specs.declared.built.BuildFault.TheVariants.{Refused, NoMemory}

-- what a rule gives, or the first refusal
infixl 10 ◌>>=◌
abbrev pub ◌>>=◌ : {A B : Type 0} → Result A BuildFault → (A → Result B BuildFault) → Result B BuildFault
(Ok x) >>= f = f x
(Err e) >>= f = Err e

abbrev pub refused_where : Outcome → Bool → Result Bool BuildFault
refused_where outcome wrong = if wrong then Err (Refused outcome) else Ok wrong

abbrev pub or_refused : {A : Type 0} → Outcome → Option A → Result A BuildFault
or_refused outcome (Some x) = Ok x
or_refused outcome None = Err (Refused outcome)

-- What every object of a tree has: an object that it stands on, and what is kept of it while it is open. Without it there
-- is nothing to ask for.
abbrev pub or_astray : {A : Type 0} → Option A → Result A BuildFault
or_astray found = or_refused outcome.InvalidState found

-- ---- the faults of what is read and mapped: no rule of these runs out of memory

abbrev pub option_fault : OptionFault → BuildFault
option_fault (option.TypeError code) = Refused (outcome.TypeError code)
option_fault (option.Unsupported code) = Refused (outcome.Unsupported code)
option_fault option.NoMemory = NoMemory

abbrev pub map_fault : MapFault → BuildFault
map_fault (map.TypeError code) = Refused (outcome.TypeError code)
map_fault (map.Unsupported code) = Refused (outcome.Unsupported code)
map_fault map.NoMemory = NoMemory

abbrev pub of_options : {A : Type 0} → Result A OptionFault → Result A BuildFault
of_options (Ok x) = Ok x
of_options (Err fault) = Err (option_fault fault)

abbrev pub of_mapping : {A : Type 0} → Result A MapFault → Result A BuildFault
of_mapping (Ok x) = Ok x
of_mapping (Err fault) = Err (map_fault fault)

-- ---- how what a call returned stands to what the rules give. Memory may run out at any value

-- what they give was returned, as contracts see it, or the first refusal
abbrev pub Gives : {A B : Type 0} → (A → B) → Result A BuildFault → Result B BuildFault → Type 0
Gives view (Ok x) rules = rules ≡ Ok (view x)
Gives view (Err (Refused outcome)) rules = rules ≡ Err (Refused outcome)
Gives view (Err NoMemory) rules = ⊤
