-- What a host is to be told by what a worker says (this project's own).
use Rattle.std.specs.Prelude.{◌≡◌, ◌^◌, ◌<◌, Some}
use Rattle.ms_base.specs.Words.{ip_text}
use Rattle.ms_base.specs.declared.tuple.Tuple.{Tuple}
use Rattle.worker_requests.specs.Contents.{ip_named}
use Rattle.worker_requests.specs.declared.notice.WorkerNotice.{WorkerNotice}
use Rattle.worker_requests.specs.declared.notice.WorkerNotice.TheVariants as notice
use Rattle.reply_contents.specs.declared.notice.Told.{Told}
use Rattle.reply_contents.specs.declared.notice.Told.TheVariants.{Running, ProducerClosed, ProducerPaused, ProducerResumed, TupleLearnt}

abbrev pub said : WorkerNotice → Told
said notice.Running = Running
said (notice.ProducerClosed consumer) = ProducerClosed consumer
said (notice.ProducerPaused consumer) = ProducerPaused consumer
said (notice.ProducerResumed consumer) = ProducerResumed consumer
said (notice.TupleLearnt transport tuple) = TupleLearnt transport tuple

-- the address is read of its text, and the port fits its type
pub record IsReadAs (tuple : Tuple) : Type 0 where
  pub address : ip_named (ip_text tuple.ip) ≡ Some tuple.ip
  pub port : tuple.port < 2 ^ 16
