-- What a worker says is read back, part by part.
use Rattle.std.proofs.Common.{◌≡◌, ℕ, ◌<◌, ◌≤◌, List, [], ◌∷◌, length, Bool, true, false, Option, Some, None, Ok, codes, slice_index, bytes_eq, ◌⊎◌, inl, inr, refl, sym, ap, subst, ◌∙◌, append-nil, arith, lit≤}
use Rattle.std.proofs.lemmas.Bool.{and_from, le-leb}
use Rattle.std.proofs.lemmas.Slice.Eq.{bytes_eq-Decides}
use Rattle.std.proofs.NetLemmas.Ipv4.{read_ipv4_complete}
use Rattle.std.specs.Net.Grammar.{IsDotted}
use Rattle.std.specs.Net.Reader.{read_ipv4, whole_value}
use Rattle.serde_json.specs.Data.{Data}
use Rattle.ms_base.specs.Id.{id_of_text, id_text, is_id_text}
use Rattle.ms_base.specs.Words.{ip_text}
use Rattle.ms_base.specs.declared.id.Id.{Id}
use Rattle.ms_base.specs.declared.tuple.Tuple.{Tuple}
use Rattle.rtp_params.specs.Reading.{number_of}
use Rattle.rtp_params.specs.Writing.{number_value}
use Rattle.worker_requests.specs.Contents.{ip_named}
use Rattle.worker_requests.specs.Said.{accepted_content, local_content, notice_of, remote_content}
use Rattle.worker_requests.specs.declared.accepted.Accepted.TheVariants.{Consumed}
use Rattle.worker_requests.specs.declared.notice.WorkerNotice.{WorkerNotice}
use Rattle.worker_requests.specs.declared.notice.WorkerNotice.TheVariants as notice
use Rattle.reply_contents.specs.declared.notice.Told.TheVariants.{ProducerClosed, ProducerPaused, ProducerResumed, TupleLearnt}
use Rattle.reply_contents.specs.Contents.{consume_flags, end_in, flags_in, local_tuple, remote_tuple}
use Rattle.reply_contents.specs.Laws.{IsReadAs, said}
use Rattle.reply_contents.specs.Notices.{events, learnt, told_of, told_of_object}

-- ---- tuples

module _ (a b c d : ℕ) (fa : a < 256) (fb : b < 256) (fc : c < 256) (fd : d < 256) where
  abbrev octets : List ℕ
  octets = a ∷ b ∷ c ∷ d ∷ []

  dotted : IsDotted (ip_text octets) octets
  dotted = record { a = a; b = b; c = c; d = d; fit = (fa, fb, fc, fd); value = refl; spelled = refl }

  ip_back : ip_named (ip_text octets) ≡ Some octets
  ip_back = ap whole_value (ap read_ipv4 (sym (append-nil (ip_text octets))) ∙ read_ipv4_complete (ip_text octets) octets [] dotted (lit≤ tt))

pub address_back : (octets : List ℕ) → length octets ≡ 4 → ((i : ℕ) → slice_index octets i < 256) → ip_named (ip_text octets) ≡ Some octets
address_back [] four fits = absurd (omega (arith, four))
address_back (a ∷ []) four fits = absurd (omega (arith, four))
address_back (a ∷ b ∷ []) four fits = absurd (omega (arith, four))
address_back (a ∷ b ∷ c ∷ []) four fits = absurd (omega (arith, four))
address_back (a ∷ b ∷ c ∷ d ∷ []) four fits = ip_back a b c d (fits 0) (fits 1) (fits 2) (fits 3)
address_back (a ∷ b ∷ c ∷ d ∷ e ∷ rest) four fits = absurd (omega (arith, four))

number_back : (low high n : ℕ) → low ≤ n → n ≤ high → number_of low high (number_value n) ≡ Ok n
unfolding number_of
number_back low high n above below = rw (and_from _ _ (le-leb low n above) (le-leb n high below)) refl

pub local_back : (tuple : Tuple) → IsReadAs tuple → 1 ≤ tuple.port → local_tuple (Some (local_content tuple)) ≡ Some tuple
unfolding end_in
local_back tuple h some = rw (h.address, number_back 1 65535 tuple.port some (let fits = h.port in omega arith)) refl

pub remote_back : (tuple : Tuple) → IsReadAs tuple → remote_tuple (Some (remote_content tuple)) ≡ Some tuple
unfolding end_in
remote_back tuple h = rw (h.address, number_back 0 65535 tuple.port (omega arith) (let fits = h.port in omega arith)) refl

-- ---- flags

pub consumed_back : (paused producer_paused : Bool) → consume_flags (accepted_content (Consumed paused producer_paused)) ≡ Some (record { paused = paused; producer_paused = producer_paused })
unfolding flags_in
consumed_back paused producer_paused = refl

-- ---- notices

no_worker : (text bytes : List ℕ) → id_of_text text ≡ Some bytes → (b : Bool) → bytes_eq text (codes "worker") ≡ b → b ≡ false
unfolding id_of_text is_id_text
no_worker text bytes is false same = refl
no_worker text bytes is true same =
    let wrong : None ≡ Some bytes = sym (ap id_of_text ((bytes_eq-Decides text (codes "worker")).0 same)) ∙ is in
    absurd cc

told_back : (target event : List ℕ) (content : Option Data) (id : Id) → id_of_text target ≡ Some id.0
    → told_of (record { target = target; event = event; content = content }) ≡ told_of_object event content id
told_back target event content id is = rw (no_worker target id.0 is (bytes_eq target (codes "worker")) refl, is) refl

module _ (id : Id) (is : id_of_text (id_text id.0) ≡ Some id.0) where
  closed_back : told_of (notice_of (notice.ProducerClosed id)) ≡ ProducerClosed id
  unfolding events
  closed_back = told_back (id_text id.0) (codes "producerclose") None id is

  paused_back : told_of (notice_of (notice.ProducerPaused id)) ≡ ProducerPaused id
  unfolding events
  paused_back = told_back (id_text id.0) (codes "producerpause") None id is

  resumed_back : told_of (notice_of (notice.ProducerResumed id)) ≡ ProducerResumed id
  unfolding events
  resumed_back = told_back (id_text id.0) (codes "producerresume") None id is

  learnt_back : (tuple : Tuple) → IsReadAs tuple → told_of (notice_of (notice.TupleLearnt id tuple)) ≡ TupleLearnt id tuple
  unfolding events
  learnt_back tuple h = told_back (id_text id.0) (codes "tuple") (Some (remote_content tuple)) id is ∙ ap (learnt id) (remote_back tuple h)

-- a host is told by a notice what the worker says by it
abbrev IsTold : WorkerNotice → Type 0
IsTold n = told_of (notice_of n) ≡ said n

pub tuple_back : (n : WorkerNotice) (id : Id) (tuple : Tuple) → id_of_text (id_text id.0) ≡ Some id.0 → IsReadAs tuple → n ≡ notice.TupleLearnt id tuple → IsTold n
tuple_back n id tuple is h e = subst IsTold (sym e) (learnt_back id is tuple h)

-- what is told of an object alone
pub object_back : (n : WorkerNotice) (id : Id) → id_of_text (id_text id.0) ≡ Some id.0
    → (n ≡ notice.ProducerClosed id) ⊎ ((n ≡ notice.ProducerPaused id) ⊎ (n ≡ notice.ProducerResumed id)) → IsTold n
object_back n id is (inl e) = subst IsTold (sym e) (closed_back id is)
object_back n id is (inr (inl e)) = subst IsTold (sym e) (paused_back id is)
object_back n id is (inr (inr e)) = subst IsTold (sym e) (resumed_back id is)
