-- What a Request is judged to ask for: a call of an object that stands there, or a refusal that can be written.
use Rattle.std.proofs.Common.{◌≡◌, ℕ, ◌-◌, ◌≤◌, Bool, true, false, cond, List, [], ◌∷◌, Option, Some, None, Result}
use Rattle.std.proofs.Common.{Ok, Err, refl, sym, subst, arith, option_map}
use Rattle.std.proofs.lemmas.Bool.{and_parts}
use Rattle.std.specs.List.{list_all}
use Rattle.std.specs.Str.{bytes_eq}
use Rattle.td_cdr.specs.Format.{value_named}
use Rattle.td_cdr.specs.Marks.{Marks}
use Rattle.td_cdr.specs.Place.{At}
use Rattle.td_cdr.specs.Writing.{Draft}
use Rattle.td_objects.specs.declared.interface.Interface.{Interface}
use Rattle.td_targets.specs.Targets.{place_of}
use Rattle.td_ior.specs.Keys.{◌>>=◌, key_of}
use Rattle.td_iter.specs.Desks.{Live, item_of}
use Rattle.td_iter.specs.declared.item.Item.{Item}
use Rattle.td_lookup.specs.Scenes.{Scene}
use Rattle.td_ops.proofs.Tags.{called}
use Rattle.td_ops.proofs.Told.{call-found}
use Rattle.td_ops.specs.Called.{iterator_operation}
use Rattle.td_ops.specs.Calls.{call_read}
use Rattle.td_ops.specs.Operations.{first_name, name_of, operations}
use Rattle.td_ops.specs.declared.call.Call.{Call as Asked}
use Rattle.td_ops.specs.declared.call.Call.TheVariants as call
use Rattle.td_ops.specs.declared.call.IterCall.{IterCall}
use Rattle.td_ops.specs.declared.call.IterCall.TheVariants as iter
use Rattle.td_ops.specs.declared.fault.OpsFault.{OpsFault}
use Rattle.td_ops.specs.declared.fault.OpsFault.TheVariants as fault
use Rattle.td_ops.specs.declared.operation.Operation.{Operation}
use Rattle.td_ops.specs.declared.operation.Operation.TheVariants.{Iterator}
use Rattle.td_ops.specs.declared.outcome.Outcome.{Outcome}
use Rattle.td_register.specs.declared.history.Accepted.{Accepted}
use Rattle.td_servant.specs.Judging.{judge_request, judged_by, judged_reading, refusal_of}
use Rattle.td_servant.specs.Objects.{interface_of, iterator_interface, object_at, object_keyed, object_of, object_with}
use Rattle.td_servant.specs.declared.entry.Entry.{Entry}
use Rattle.td_servant.specs.declared.judging.Judged.{Judged}
use Rattle.td_servant.specs.declared.judging.Judged.TheVariants.{Call, Refused}
use Rattle.td_servant.specs.declared.objects.Object.{Object}
use Rattle.td_dispatch.specs.Requests.{OutcomeOfRequest, FitsCode, number_in}
use Rattle.td_trader.specs.Worlds.{View, name_at}
use Rattle.td_session_runs_laws.proofs.Iterated.{FitsLeft}
use Rattle.td_session_runs_laws.specs.Spelled.{AdmitsAnswer}
use Rattle.td_session_runs_laws.specs.Writable.{IsWritableScene}
use Rattle.td_value.specs.declared.key.Kind.{Kind}
use Rattle.td_value.specs.declared.key.Kind.TheVariants as kind
use Rattle.td_value.specs.declared.key.ObjectKey.{ObjectKey}
use Rattle.td_walk.specs.declared.trace.Address.{Address}

-- ---- refusals

-- a refusal can be written whose minor code is a ulong
abbrev AdmitsJudged : Judged → Type 0
AdmitsJudged (Call x c) = Unit {0}
AdmitsJudged (Refused r) = FitsCode (Refused r) r → AdmitsAnswer (Refused r) r

fault-admitted : (f : OpsFault) → AdmitsJudged (Refused (refusal_of f))
fault-admitted fault.BadOperation = λ _. (omega arith, omega arith)
fault-admitted (fault.Marshal place) = λ h. (h, omega arith)
fault-admitted fault.NoImplement = λ _. (omega arith, omega arith)
fault-admitted fault.Memory = λ _. (omega arith, omega arith)

reading-admitted : (x : Object) (r : Result (Asked × At) OpsFault) → AdmitsJudged (judged_reading x r)
reading-admitted x (Ok read) = tt
reading-admitted x (Err f) = fault-admitted f

found-admitted : (found : Option Object) (operation : List ℕ) (body : At)
    → AdmitsJudged (judged_by found operation body)
found-admitted None operation body = λ _. (omega arith, omega arith)
found-admitted (Some x) operation body = reading-admitted x (call_read x.kind operation body)

pub refused-writes : (others : List Accepted → Type 0) (later : Marks → Marks → Type 0) (home : Address)
    (w : List View) (d : Live) (key operation : List ℕ) (body : At) (r : Outcome) (draft : Draft) (s t : Scene)
    (o : Outcome) (e : Entry) → judge_request w d key operation body ≡ Refused r → IsWritableScene s
    → FitsCode (Refused r) o → OutcomeOfRequest others later home (Refused r) draft s o e t
    → AdmitsAnswer (Refused r) o × IsWritableScene t
refused-writes others later home w d key operation body r draft s t o e is h code c =
    let content = subst AdmitsJudged is (found-admitted (object_at w d key) operation body) in
    let fits = subst (FitsCode (Refused r)) c.0 code in
    (subst (AdmitsAnswer (Refused r)) (sym c.0) (content fits), subst IsWritableScene (sym c.2) h)

-- ---- an object of a group

-- its interface is that of what stands there
abbrev Stands : List View → Live → Object → Type 0
Stands w d x = interface_of (name_at w x.trader) d x.kind ≡ Some x.interface

with-interface : (w : List View) (d : Live) (k : ℕ) (which : Kind) (found : Option Interface) (x : Object)
    → interface_of (name_at w k) d which ≡ found → option_map (object_with k which) found ≡ Some x → Stands w d x
with-interface w d k which None x is e = absurd (let bad : ⊥ = cc in bad)
with-interface w d k which (Some i) x is e =
    let same : object_with k which i ≡ x = cc in subst (Stands w d) same is

placed : (w : List View) (d : Live) (place : Option ℕ) (which : Kind) (x : Object)
    → (place >>= λ k. object_of w d k which) ≡ Some x → Stands w d x
placed w d None which x e = absurd (let bad : ⊥ = cc in bad)
placed w d (Some k) which x e = with-interface w d k which (interface_of (name_at w k) d which) x refl e

keyed : (w : List View) (d : Live) (key : Option ObjectKey) (x : Object) → (key >>= object_keyed w d) ≡ Some x
    → Stands w d x
keyed w d None x e = absurd (let bad : ⊥ = cc in bad)
keyed w d (Some key) x e = placed w d (place_of w key.trader) key.kind x e

object-stands : (w : List View) (d : Live) (octets : List ℕ) (x : Object) → object_at w d octets ≡ Some x
    → Stands w d x
unfolding object_at
object-stands w d octets x e = keyed w d (key_of octets) x e

-- ---- calls of iterators

-- operations of other objects
abbrev is_other : Operation → Bool
is_other (Iterator o) = false
is_other o = true

abbrev IsIterator : Kind → Type 0
IsIterator (kind.Iterator n) = Unit {0}
IsIterator other = ⊥

named-when : (test : Operation → Bool) (b : Bool) (k o : Operation) (later : Option Operation) → test k ≡ true
    → (later ≡ Some o → test o ≡ true) → cond b (Some k) later ≡ Some o → test o ≡ true
named-when test true k o later h more e = let same : k ≡ o = cc in subst (λ (x : Operation). test x ≡ true) same h
named-when test false k o later h more e = more e

named-passes : (test : Operation → Bool) (os : List Operation) (name : List ℕ) (o : Operation)
    → list_all test os ≡ true → value_named name_of os name ≡ Some o → test o ≡ true
named-passes test [] name o all e = absurd (let bad : ⊥ = cc in bad)
named-passes test (k ∷ os) name o all e =
    let parts = and_parts (test k) (list_all test os) all in
    named-when test (bytes_eq name (name_of k)) k o (value_named name_of os name) parts.0
    (named-passes test os name o parts.1) e

iterator-other : (i : IterCall) → is_other (iterator_operation i) ≡ true → ⊥
iterator-other iter.MaxLeft e = let bad : ⊥ = cc in bad
iterator-other (iter.NextN n) e = let bad : ⊥ = cc in bad
iterator-other iter.Destroy e = let bad : ⊥ = cc in bad

only-iterators : (k : Kind) → (list_all is_other (operations k) ≡ true → ⊥) → IsIterator k
only-iterators kind.Lookup none = none refl
only-iterators kind.Register none = none refl
only-iterators kind.Link none = none refl
only-iterators kind.Proxy none = none refl
only-iterators kind.Admin none = none refl
only-iterators kind.Types none = none refl
only-iterators (kind.Iterator n) none = tt

iterates-only : (k : Kind) (name : List ℕ) (a : At) (i : IterCall) (next : At) → a.origin ≤ a.place
    → call_read k name a ≡ Ok (call.Iter i, next) → IsIterator k
iterates-only k name a i next h e =
    let f = call-found k name a (call.Iter i) next h e in
    let same = called f.spelled.operation a.order (a.place - a.origin) (call.Iter i) f.bytes f.spelled.spelled in
    only-iterators k
    (λ all. iterator-other i
    (subst (λ (o : Operation). is_other o ≡ true) (sym same)
    (named-passes is_other (operations k) (first_name name) f.spelled.operation all f.spelled.named)))

-- ---- what stands there fits the call

-- an iterator's interface is that of what is left
abbrev pub FitsCall : List View → Live → Object → Asked → Type 0
FitsCall w d x (call.Iter i) = FitsLeft (item_of (name_at w x.trader) (number_in x.kind) d) x.interface
FitsCall w d x other = Unit {0}

left-fits : (left : Option Item) (i : Interface) → option_map iterator_interface left ≡ Some i → FitsLeft left i
left-fits None i e = tt
left-fits (Some left) i e = let same : i ≡ iterator_interface left = cc in same

iterator-fits : (name : List ℕ) (d : Live) (k : Kind) (i : Interface) → interface_of name d k ≡ Some i → IsIterator k
    → FitsLeft (item_of name (number_in k) d) i
iterator-fits name d (kind.Iterator n) i e is = left-fits (item_of name n d) i e
iterator-fits name d kind.Lookup i e is = absurd is
iterator-fits name d kind.Register i e is = absurd is
iterator-fits name d kind.Link i e is = absurd is
iterator-fits name d kind.Proxy i e is = absurd is
iterator-fits name d kind.Admin i e is = absurd is
iterator-fits name d kind.Types i e is = absurd is

call-fits : (w : List View) (d : Live) (x : Object) (c : Asked) (operation : List ℕ) (body next : At) → Stands w d x
    → body.origin ≤ body.place → call_read x.kind operation body ≡ Ok (c, next) → FitsCall w d x c
call-fits w d x (call.Iter i) operation body next stands h e =
    iterator-fits (name_at w x.trader) d x.kind x.interface stands (iterates-only x.kind operation body i next h e)
call-fits w d x c operation body next stands h e = tt

same-object : (x y : Object) (c d : Asked) → Call y d ≡ Call x c → y ≡ x
same-object x y c d h = cc

same-call : (x y : Object) (c d : Asked) → Call y d ≡ Call x c → d ≡ c
same-call x y c d h = cc

reading-fits : (w : List View) (d : Live) (y x : Object) (c : Asked) (operation : List ℕ) (body : At)
    (r : Result (Asked × At) OpsFault) → Stands w d y → body.origin ≤ body.place → call_read y.kind operation body ≡ r
    → judged_reading y r ≡ Call x c → FitsCall w d x c
reading-fits w d y x c operation body (Err f) stands h read e = absurd (let bad : ⊥ = cc in bad)
reading-fits w d y x c operation body (Ok r) stands h read e =
    subst (λ (z : Object). FitsCall w d z c) (same-object x y c r.0 e)
    (subst (FitsCall w d y) (same-call x y c r.0 e) (call-fits w d y r.0 operation body r.1 stands h read))

found-fits : (w : List View) (d : Live) (found : Option Object) (x : Object) (c : Asked) (operation : List ℕ)
    (body : At) → ((y : Object) → found ≡ Some y → Stands w d y) → body.origin ≤ body.place
    → judged_by found operation body ≡ Call x c → FitsCall w d x c
found-fits w d None x c operation body stands h e = absurd (let bad : ⊥ = cc in bad)
found-fits w d (Some y) x c operation body stands h e =
    reading-fits w d y x c operation body (call_read y.kind operation body) (stands y refl) h refl e

pub judged-fits : (w : List View) (d : Live) (key operation : List ℕ) (body : At) (x : Object) (c : Asked)
    → body.origin ≤ body.place → judge_request w d key operation body ≡ Call x c → FitsCall w d x c
judged-fits w d key operation body x c h e =
    found-fits w d (object_at w d key) x c operation body (object-stands w d key) h e
