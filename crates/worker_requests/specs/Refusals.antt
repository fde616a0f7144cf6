-- Why a request is refused: the code and the error of each reason. This project's own.
use Rattle.std.specs.Prelude.{ℕ, List, Bool, codes, if◌then◌else◌, Option, Some, None, Result, Ok, Err}
use Rattle.ms_base.specs.declared.outcome.WorkerError.{WorkerError}
use Rattle.ms_base.specs.declared.outcome.WorkerError.TheVariants as error
use Rattle.worker_requests.specs.declared.refusal.Refusal.{Refusal}
use Rattle.worker_requests.specs.declared.refusal.Refusal.TheVariants as refusal

abbrev pub code_of : Refusal → List ℕ
code_of refusal.Method = codes "method"
code_of refusal.Internal = codes "internal"
code_of refusal.Missing = codes "missing"
code_of refusal.Exists = codes "exists"
code_of refusal.Data = codes "data"
code_of refusal.State = codes "state"
code_of refusal.Ssrc = codes "ssrc"
code_of refusal.Link = codes "link"

-- a request of a wrong form is a `TypeError`
abbrev pub error_of : Refusal → WorkerError
error_of refusal.Method = error.TypeError
error_of refusal.Internal = error.TypeError
error_of refusal.Missing = error.Error
error_of refusal.Exists = error.Error
error_of refusal.Data = error.TypeError
error_of refusal.State = error.Error
error_of refusal.Ssrc = error.Error
error_of refusal.Link = error.Error

-- ---- tests one after another: the first reason counts

-- or the reason, where there is nothing
abbrev pub or_refused : {A : Type 0} → Refusal → Option A → Result A Refusal
or_refused why (Some x) = Ok x
or_refused why None = Err why

abbrev pub refused_where : Bool → Refusal → Result Bool Refusal
refused_where wrong why = if wrong then Err why else Ok wrong

infixl 10 ◌>>=◌
abbrev pub ◌>>=◌ : {A B : Type 0} → Result A Refusal → (A → Result B Refusal) → Result B Refusal
(Ok x) >>= f = f x
(Err e) >>= f = Err e
