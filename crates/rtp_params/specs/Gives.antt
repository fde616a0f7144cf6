-- How what a reader returned stands to what the value is read as. Memory may run out at any value.
use Rattle.std.specs.Prelude.{◌≡◌, Result, Ok, Err, ⊤}
use Rattle.ms_base.specs.declared.code.Code.{Code}
use Rattle.rtp_params.specs.declared.fault.ParamFault.{ParamFault}
use Rattle.rtp_params.specs.declared.fault.ParamFault.TheVariants.{TypeError, NoMemory}

-- what is read was returned, or the first fault with its code
abbrev pub Gives : {A : Type 0} → Result A ParamFault → Result A Code → Type 0
Gives (Ok x) reading = reading ≡ Ok x
Gives (Err (TypeError code)) reading = reading ≡ Err code
Gives (Err NoMemory) reading = ⊤
