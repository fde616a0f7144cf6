-- What serving promises, as the promises of the program's status.
use Rattle.std.proofs.Common.{◌≡◌, ◌≢◌, ◌++◌, ℕ, List, IsTrue, Option, Some, None, refl, sym, subst, arith}
use Rattle.ms_devices.specs.Told.{Tells}
use Rattle.ms_devices.specs.declared.events.GivenEvent.{GivenEvent}
use Rattle.ms_devices.specs.declared.events.OutCall.{OutCall}
use Rattle.worker_serve.specs.ServeEnds.{IsServe, ReadsBy, WritesBy, GivenBy}
use Rattle.worker_serve.specs.Serving.{WorkerOutside, Since, IsOutput, IsToABreak}
use Rattle.worker_serve.specs.declared.serving.ServeEnd.{ServeEnd}
use Rattle.worker_serve.specs.declared.serving.ServeEnd.TheVariants as ends
use Rattle.run_top.specs.declared.status.TheConstants.Status.{DONE, BAD_TEXT, READ_FAILED, WRITE_FAILED, OUT_OF_MEMORY}
use Rattle.run_top.specs.Worker.{IsWorker, is_worker_status, status_of}

-- ---- which end a status tells

is-one : (end : ServeEnd) → IsTrue (is_worker_status (status_of end))
is-one ends.End = refl
is-one ends.Read = refl
is-one ends.Write = refl
is-one (ends.TooLong place told) = refl
is-one ends.NoMemory = refl

tells-end : (end : ServeEnd) → status_of end ≡ DONE.0 → end ≡ ends.End
tells-end ends.End is = refl
tells-end ends.Read is = absurd (omega arith)
tells-end ends.Write is = absurd (omega arith)
tells-end (ends.TooLong place told) is = absurd (omega arith)
tells-end ends.NoMemory is = absurd (omega arith)

tells-read : (end : ServeEnd) → status_of end ≡ READ_FAILED.0 → end ≡ ends.Read
tells-read ends.End is = absurd (omega arith)
tells-read ends.Read is = refl
tells-read ends.Write is = absurd (omega arith)
tells-read (ends.TooLong place told) is = absurd (omega arith)
tells-read ends.NoMemory is = absurd (omega arith)

tells-write : (end : ServeEnd) → status_of end ≡ WRITE_FAILED.0 → end ≡ ends.Write
tells-write ends.End is = absurd (omega arith)
tells-write ends.Read is = absurd (omega arith)
tells-write ends.Write is = refl
tells-write (ends.TooLong place told) is = absurd (omega arith)
tells-write ends.NoMemory is = absurd (omega arith)

tells-break : (end : ServeEnd) → status_of end ≡ BAD_TEXT.0 → (place : ℕ) × (told : ℕ) × (end ≡ ends.TooLong place told)
tells-break ends.End is = absurd (omega arith)
tells-break ends.Read is = absurd (omega arith)
tells-break ends.Write is = absurd (omega arith)
tells-break (ends.TooLong place told) is = (place, told, refl)
tells-break ends.NoMemory is = absurd (omega arith)

tells-short : (end : ServeEnd) → status_of end ≡ OUT_OF_MEMORY.0 → end ≡ ends.NoMemory
tells-short ends.End is = absurd (omega arith)
tells-short ends.Read is = absurd (omega arith)
tells-short ends.Write is = absurd (omega arith)
tells-short (ends.TooLong place told) is = absurd (omega arith)
tells-short ends.NoMemory is = refl

-- ---- where no fault was

no-read : (end : ServeEnd) (before now : ℕ) → ReadsBy end before now → status_of end ≢ READ_FAILED.0 → now ≡ before
no-read ends.End before now by not = by
no-read ends.Read before now by not = absurd (not refl)
no-read ends.Write before now by not = by
no-read (ends.TooLong place told) before now by not = by
no-read ends.NoMemory before now by not = by

no-write : (end : ServeEnd) (before now : ℕ) → WritesBy end before now → status_of end ≢ WRITE_FAILED.0 → now ≡ before
no-write ends.End before now by not = by
no-write ends.Read before now by not = by
no-write ends.Write before now by not = absurd (not refl)
no-write (ends.TooLong place told) before now by not = by
no-write ends.NoMemory before now by not = by

-- ---- a break, whatever its place

tells-so : {A : Type 0} (P Q : A → A → Type 0) → ((x y : A) → P x y → Q x y) → (x y : Option A) → Tells P x y → Tells Q x y
tells-so P Q so None None p = tt
tells-so P Q so None (Some y) p = absurd p
tells-so P Q so (Some x) None p = tt
tells-so P Q so (Some x) (Some y) p = so x y p

abbrev Output : (List GivenEvent → Type 0) → WorkerOutside → WorkerOutside → List GivenEvent → List GivenEvent → Type 0
Output of_events before now had has =
    (events : List GivenEvent) × (has ≡ had ++ events) × of_events events
    × Tells (λ made all. (calls : List OutCall) × (all ≡ made ++ calls) × IsOutput events calls) before.calls now.calls

at-a-break : (place told : ℕ) (before now : WorkerOutside) → Since (GivenBy (ends.TooLong place told)) IsOutput before now → Since IsToABreak IsOutput before now
at-a-break place told before now s =
    tells-so (Output (GivenBy (ends.TooLong place told)) before now) (Output IsToABreak before now) (λ x y u. (u.0, u.1, u.2.broken, u.3)) before.given now.given s

-- ---- the promises

by-end : (end : ServeEnd) (before now : WorkerOutside) → IsServe end before now → IsWorker (status_of end) before now
by-end end before now s =
    record {
      statuses = is-one end;
      done = λ is. (subst (λ (x : ServeEnd). IsServe x before now) (tells-end end is) s).served;
      broken = λ is.
          let at = tells-break end is in
          at-a-break at.0 at.1 before now (subst (λ (x : ServeEnd). IsServe x before now) at.2 s).served;
      read_failed = λ is. (subst (λ (x : ServeEnd). IsServe x before now) (tells-read end is) s).served;
      read_rose = λ is. (subst (λ (x : ServeEnd). IsServe x before now) (tells-read end is) s).reads;
      write_failed = λ is. (subst (λ (x : ServeEnd). IsServe x before now) (tells-write end is) s).served;
      write_rose = λ is. (subst (λ (x : ServeEnd). IsServe x before now) (tells-write end is) s).writes;
      out_of_memory = λ is. (subst (λ (x : ServeEnd). IsServe x before now) (tells-short end is) s).served;
      read_still = λ not. no-read end before.read_faults now.read_faults s.reads not;
      write_still = λ not. no-write end before.channel_faults now.channel_faults s.writes not;
      links = s.links;
    }

pub worker_by : (end : ServeEnd) (status : ℕ) (before now : WorkerOutside) → status ≡ status_of end → IsServe end before now → IsWorker status before now
worker_by end status before now is s = subst (λ (n : ℕ). IsWorker n before now) (sym is) (by-end end before now s)
