-- The columns of a call come to its tests in their turn.
use Rattle.std.proofs.Common.{◌≡◌, ℕ, ◌&&◌, ◌||◌, not, List, [], ◌∷◌, Bool, true, false, Option, Some, None, option_map, Result, Ok, refl, ap, ap₂, sym, subst, ◌∙◌}
use Rattle.std.specs.Option.{is_some}
use Rattle.std.specs.List.{list_any}
use Rattle.ms_base.specs.declared.keys.Kind.{Kind}
use Rattle.ms_base.specs.declared.keys.Kind.TheVariants as kind
use Rattle.ms_base.specs.declared.op.Op.{Op}
use Rattle.ms_base.specs.declared.op.Op.TheVariants as op
use Rattle.ms_base.specs.declared.outcome.Outcome.TheVariants as outcome
use Rattle.object_tree.specs.declared.object.Object.{Object}
use Rattle.object_tree.specs.Objects.{named}
use Rattle.request_build.specs.declared.built.BuildFault.{BuildFault}
use Rattle.request_build.specs.declared.built.Built as code_built
use Rattle.request_build.specs.Asks.{Built, consume_asked, router_asked}
use Rattle.request_build.specs.Built.{built, built_of, built_view, is_own}
use Rattle.request_build.specs.Columns.{Call, CanConsume, Close, Connect, Consume, Direct, Pause, Pipe, PipeRouter, Plain, Produce, Resume, Router, Send, Worker, are_same, four_names, is_barred, is_of_wrong_kind, is_one_of, is_taken, is_there, of_both, streams, transports}
use Rattle.request_build.specs.Known.{Known, above, router_of}
use Rattle.request_build.specs.Rules.{◌>>=◌, Gives, or_refused, refused_where}
use Rattle.request_build.specs.Steps.{is_shut, row_can_consume, row_close, row_connect, row_consume, row_direct, row_flag, row_pipe, row_pipe_router, row_plain, row_produce, row_router, row_send, row_worker}

-- ---- tests

same_test : (b : Bool) → (not (b && true) || false) ≡ not b
same_test true = refl
same_test false = refl

same_shut : (stopped closed : Bool) → (stopped || ((closed || false) || false)) ≡ (stopped || closed)
same_shut true closed = refl
same_shut false true = refl
same_shut false false = refl

same_stop : (stopped : Bool) → (stopped || (false || false)) ≡ stopped
same_stop true = refl
same_stop false = refl

both_tests : (a b : Bool) → (not (a && (b && true)) || false) ≡ (not a || not b)
both_tests true true = refl
both_tests true false = refl
both_tests false b = refl

both_shut : (stopped one other unready : Bool) → (stopped || ((one || (other || false)) || unready)) ≡ (((stopped || one) || (stopped || other)) || unready)
both_shut true one other unready = refl
both_shut false true other unready = refl
both_shut false false true unready = refl
both_shut false false false unready = refl

both_closed : (stopped one other : Bool) → (stopped || ((one || (other || false)) || false)) ≡ ((stopped || one) || (stopped || other))
both_closed true one other = refl
both_closed false true other = refl
both_closed false false true = refl
both_closed false false false = refl

-- ---- rules

abbrev Answer : Type 0
Answer = Result Built BuildFault

-- a wrong kind, and then a wrong state
abbrev tested : Bool → Bool → Answer → Answer
tested wrong barred rest = refused_where outcome.WrongKind wrong >>= (λ _. refused_where outcome.InvalidState barred >>= (λ _. rest))

same_tests : (a b c d : Bool) (rest : Answer) → a ≡ b → c ≡ d → tested a c rest ≡ tested b d rest
same_tests a b c d rest e f = ap₂ (λ x y. tested x y rest) e f

abbrev kept_if : Bool → Bool → Object → Result Object BuildFault
kept_if wrong barred o = refused_where outcome.WrongKind wrong >>= (λ _. refused_where outcome.InvalidState barred >>= (λ _. Ok o))

of_one : (wrong barred : Bool) (o : Object) (rest : Object → Answer) → tested wrong barred (rest o) ≡ (kept_if wrong barred o >>= rest)
of_one true barred o rest = refl
of_one false true o rest = refl
of_one false false o rest = refl

-- another reason for a wrong state behind the others
of_unready : (wrong stopped closed unready : Bool) (o : Object) (rest : Answer)
    → tested wrong (stopped || ((closed || false) || unready)) rest ≡ (kept_if wrong (stopped || closed) o >>= (λ _. refused_where outcome.InvalidState unready >>= (λ _. rest)))
of_unready true stopped closed unready o rest = refl
of_unready false true closed unready o rest = refl
of_unready false false true unready o rest = refl
of_unready false false false true o rest = refl
of_unready false false false false o rest = refl

-- behind the name that it is to make
named_first : (taken : Bool) (one other : Answer) → one ≡ other → (refused_where outcome.NameTaken (taken || false) >>= (λ _. one)) ≡ (refused_where outcome.NameTaken taken >>= (λ _. other))
named_first true one other e = refl
named_first false one other e = e

abbrev columns : Known → Option Call → Answer
columns k call = or_refused outcome.NoName call >>= (λ c. tested (is_of_wrong_kind k c) (is_barred k c) (built_of k c))

-- ---- calls that need one object

module _ (k : Known) (call : Object → Call) (kinds : List Kind)
    (wrong : (o : Object) → is_of_wrong_kind k (call o) ≡ not (is_one_of kinds o)) (barred : (o : Object) → is_barred k (call o) ≡ is_shut k o) where
  by_one : (found : Option Object) → columns k (option_map call found) ≡ ((or_refused outcome.NoName found >>= (λ o. kept_if (not (is_one_of kinds o)) (is_shut k o) o)) >>= (λ o. built_of k (call o)))
  by_one None = refl
  by_one (Some o) =
      same_tests _ _ _ _ (built_of k (call o)) (wrong o) (barred o)
      ∙ of_one (not (is_one_of kinds o)) (is_shut k o) o (λ x. built_of k (call x))

shut : (k : Known) (o : Object) → (k.stopped || ((is_some o.closed || false) || false)) ≡ is_shut k o
shut k o = same_shut k.stopped (is_some o.closed)

pub plain_is : (k : Known) (name router options : List ℕ) → built k (op.Plain name router options) ≡ row_plain k name router options
plain_is k name router options =
    named_first (is_taken k name) _ _ (by_one k (λ o. Plain name o options) (kind.Router ∷ []) (λ o. same_test _) (shut k) (named k.objects router))

pub pipe_is : (k : Known) (name router options : List ℕ) → built k (op.Pipe name router options) ≡ row_pipe k name router options
pipe_is k name router options =
    named_first (is_taken k name) _ _ (by_one k (λ o. Pipe name o options) (kind.Router ∷ []) (λ o. same_test _) (shut k) (named k.objects router))

pub direct_is : (k : Known) (name router : List ℕ) → built k (op.Direct name router) ≡ row_direct k name router
direct_is k name router = named_first (is_taken k name) _ _ (by_one k (λ o. Direct name o) (kind.Router ∷ []) (λ o. same_test _) (shut k) (named k.objects router))

pub connect_is : (k : Known) (transport options : List ℕ) → built k (op.Connect transport options) ≡ row_connect k transport options
connect_is k transport options = by_one k (λ o. Connect o options) (kind.Plain ∷ kind.Pipe ∷ []) (λ o. same_test _) (shut k) (named k.objects transport)

pub produce_is : (k : Known) (name transport options : List ℕ) → built k (op.Produce name transport options) ≡ row_produce k name transport options
produce_is k name transport options =
    named_first (is_taken k name) _ _ (by_one k (λ o. Produce name o options) transports (λ o. same_test _) (shut k) (named k.objects transport))

pub pause_is : (k : Known) (name : List ℕ) → built k (op.Pause name) ≡ row_flag k name true
pause_is k name = by_one k Pause streams (λ o. same_test _) (shut k) (named k.objects name)

pub resume_is : (k : Known) (name : List ℕ) → built k (op.Resume name) ≡ row_flag k name false
resume_is k name = by_one k Resume streams (λ o. same_test _) (shut k) (named k.objects name)

pub can_consume_is : (k : Known) (producer caps : List ℕ) → built k (op.CanConsume producer caps) ≡ row_can_consume k producer caps
can_consume_is k producer caps = by_one k (λ o. CanConsume o caps) (kind.Producer ∷ []) (λ o. same_test _) (shut k) (named k.objects producer)

-- ---- the others

pub worker_is : (k : Known) (name : List ℕ) (budget : ℕ) → built k (op.Worker name budget) ≡ row_worker k name
worker_is k name budget =
    named_first (is_taken k name) _ _ (ap (λ b. refused_where outcome.InvalidState b >>= (λ _. built_of k Worker)) (same_stop k.stopped))

pub router_is : (k : Known) (name worker options : List ℕ) → built k (op.Router name worker options) ≡ row_router k name worker options
router_is k name worker options = named_first (is_taken k name) _ _ (at (named k.objects worker))
  where
    again : (wrong barred : Bool) (o : Object)
        → (kept_if wrong barred o >>= (λ _. refused_where outcome.InvalidState (not o.running) >>= (λ _. router_asked k name o options)))
        ≡ (kept_if wrong barred o >>= (λ x. refused_where outcome.InvalidState (not x.running) >>= (λ _. router_asked k name x options)))
    again true barred o = refl
    again false true o = refl
    again false false o = refl

    at : (found : Option Object) → columns k (option_map (λ o. Router name o options) found)
        ≡ ((or_refused outcome.NoName found >>= (λ o. kept_if (not (is_one_of (kind.Worker ∷ []) o)) (is_shut k o) o)) >>= (λ o. refused_where outcome.InvalidState (not o.running) >>= (λ _. router_asked k name o options)))
    at None = refl
    at (Some o) =
        same_tests _ _ _ _ (router_asked k name o options) (same_test (is_one_of (kind.Worker ∷ []) o)) refl
        ∙ of_unready (not (is_one_of (kind.Worker ∷ []) o)) k.stopped (is_some o.closed) (not o.running) o (router_asked k name o options)
        ∙ again (not (is_one_of (kind.Worker ∷ []) o)) (is_shut k o) o

pub consume_is : (k : Known) (name transport producer options : List ℕ) → built k (op.Consume name transport producer options) ≡ row_consume k name transport producer options
consume_is k name transport producer options = named_first (is_taken k name) _ _ (at (named k.objects transport) (named k.objects producer))
  where
    at : (t p : Option Object) → columns k (of_both (λ a b. Consume name a b options) t p)
        ≡ (or_refused outcome.NoName t >>= (λ a. or_refused outcome.NoName p >>= (λ b. tested (not (is_one_of transports a) || not (is_one_of (kind.Producer ∷ []) b)) ((is_shut k a || is_shut k b) || not (are_same a.parent (router_of k.objects b))) (consume_asked k name a b options))))
    at None p = refl
    at (Some a) None = refl
    at (Some a) (Some b) =
        same_tests _ _ _ _ (consume_asked k name a b options) (both_tests (is_one_of transports a) (is_one_of (kind.Producer ∷ []) b))
        (both_shut k.stopped (is_some a.closed) (is_some b.closed) (not (are_same a.parent (router_of k.objects b))))

pub close_is : (k : Known) (name : List ℕ) → built k (op.Close name) ≡ row_close k name
close_is k name = at (named k.objects name)
  where
    at : (found : Option Object) → columns k (option_map Close found) ≡ (or_refused outcome.NoName found >>= (λ _. is_own))
    at None = refl
    at (Some o) = refl

pub send_is : (k : Known) (producer packet : List ℕ) → built k (op.Send producer packet) ≡ row_send k producer packet
send_is k producer packet = at (named k.objects producer)
  where
    wrong : (b elsewhere : Bool) → (not (b && true) || elsewhere) ≡ (not b || elsewhere)
    wrong true elsewhere = refl
    wrong false elsewhere = refl

    at : (found : Option Object) → columns k (option_map (λ o. Send o packet) found)
        ≡ (or_refused outcome.NoName found >>= (λ p. tested (not (is_one_of (kind.Producer ∷ []) p) || not (is_there kind.Direct (above k.objects p))) (is_shut k p) (built_of k (Send p packet))))
    at None = refl
    at (Some p) =
        same_tests _ _ _ _ (built_of k (Send p packet)) (wrong (is_one_of (kind.Producer ∷ []) p) (not (is_there kind.Direct (above k.objects p)))) (shut k p)

pub pipe_router_is : (k : Known) (name producer router : List ℕ) → built k (op.PipeRouter name producer router) ≡ row_pipe_router k name producer router
pipe_router_is k name producer router =
    ap (λ (rest : Answer). refused_where outcome.NameTaken (list_any (is_taken k) (four_names name)) >>= (λ _. rest)) (at (named k.objects producer) (named k.objects router))
  where
    at : (p r : Option Object) → columns k (of_both PipeRouter p r)
        ≡ (or_refused outcome.NoName p >>= (λ a. or_refused outcome.NoName r >>= (λ b. tested (not (is_one_of (kind.Producer ∷ []) a) || not (is_one_of (kind.Router ∷ []) b)) (is_shut k a || is_shut k b) (built_of k (PipeRouter a b)))))
    at None r = refl
    at (Some a) None = refl
    at (Some a) (Some b) =
        same_tests _ _ _ _ (built_of k (PipeRouter a b)) (both_tests (is_one_of (kind.Producer ∷ []) a) (is_one_of (kind.Router ∷ []) b))
        (both_closed k.stopped (is_some a.closed) (is_some b.closed))

-- ---- what a row gives, the call gives

pub gives : (result : Result code_built.Built BuildFault) (k : Known) (o p : Op) (row : Answer) → o ≡ p → built k p ≡ row → Gives built_view result row → Gives built_view result (built k o)
gives result k o p row is same h = subst (λ x. Gives built_view result (built k x)) (sym is) (subst (Gives built_view result) (sym same) h)
