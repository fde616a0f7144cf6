use Rattle.std.proofs.Common.{ℕ, ap, length, decimal, arith, length-append}
use Rattle.hex.proofs.HexLemmas.{length-encode_with}
use Rattle.script_text.proofs.Rests.{rest_of, rest_of_making, rest_of_telling, rest_of_turning}
use Rattle.script_text.proofs.write.args_size.Goals as goal

pub returns-in-Worker : goal.returns-in-Worker
returns-in-Worker c = rw (rest_of _ _ c.in-Worker.is) (simp length-append (omega (arith, c.digits.ensures.value, ap (λ (n : ℕ). length (decimal n)) c.from.ensures)))

pub returns-in-Direct : goal.returns-in-Direct
returns-in-Direct c = rw (rest_of _ _ c.in-Direct.is) (simp length-append (omega arith))

pub returns-in-Consume : goal.returns-in-Consume
returns-in-Consume c = rw (rest_of _ _ c.in-Consume.is) (simp length-append (omega (arith, ap length c.as_str.ensures)))

pub returns-in-Send : goal.returns-in-Send
returns-in-Send c = rw (rest_of _ _ c.in-Send.is) (simp (length-append, length-encode_with) (omega arith))

pub returns-in-PipeRouter : goal.returns-in-PipeRouter
returns-in-PipeRouter c = rw (rest_of _ _ c.in-PipeRouter.is) (simp length-append (omega arith))

pub returns-in-Pause : goal.returns-in-Pause
returns-in-Pause c = rw (rest_of_turning _ _ c.in-Pause.is) (omega arith)

pub returns-in-Connect : goal.returns-in-Connect
returns-in-Connect c = rw (rest_of_telling _ _ _ c.in-Connect.is) (simp length-append (omega (arith, ap length c.as_str-in-Connect.ensures)))

pub returns-in-Router : goal.returns-in-Router
returns-in-Router c = rw (rest_of_making _ _ _ _ c.in-Router.is) (simp length-append (omega (arith, ap length c.as_str-in-Router.ensures)))
