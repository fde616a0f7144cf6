-- How what a call returned stands to what its options are read as (this project's own). Memory may run out at any value.
use Rattle.std.specs.Prelude.{◌≡◌, Result, Ok, Err, ⊤}
use Rattle.ms_base.specs.declared.code.Code.{Code}
use Rattle.rtp_params.specs.declared.fault.ParamFault.{ParamFault}
use Rattle.rtp_params.specs.declared.fault.ParamFault.TheVariants as params
use Rattle.call_options.specs.declared.fault.OptionFault.{OptionFault}
use Rattle.call_options.specs.declared.fault.OptionFault.TheVariants.{TypeError, Unsupported, NoMemory}

-- what is read was returned, or the first fault with its code
abbrev pub Gives : {A : Type 0} → Result A OptionFault → Result A OptionFault → Type 0
Gives (Ok x) reading = reading ≡ Ok x
Gives (Err (TypeError code)) reading = reading ≡ Err (TypeError code)
Gives (Err (Unsupported code)) reading = reading ≡ Err (Unsupported code)
Gives (Err NoMemory) reading = ⊤

-- a fault of reading is one of type
abbrev pub type_error : {A : Type 0} → Result A Code → Result A OptionFault
type_error (Ok x) = Ok x
type_error (Err code) = Err (TypeError code)

abbrev pub of_params : ParamFault → OptionFault
of_params (params.TypeError code) = TypeError code
of_params params.NoMemory = NoMemory
