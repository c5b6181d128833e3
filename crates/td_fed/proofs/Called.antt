-- What is noted of a call of a peer, and what comes of it.
use Rattle.std.proofs.Common.{◌≡◌, ℕ, true, false, List, [], ◌∷◌, ◌++◌, Option, None, Some, refl, sym, ap}
use Rattle.std.proofs.Common.{subst, ◌∙◌, append-nil, Result, Ok, Err, IfOk, OnErr, is_some}
use Rattle.td_cdr.specs.declared.memory.Memory.{Memory as OutOfMemory}
use Rattle.td_typecode.specs.declared.code.Any.{Any}
use Rattle.td_typecode.specs.declared.code.TypeCode.{TypeCode}
use Rattle.td_typecode.specs.declared.reference.Ior.{Ior}
use Rattle.td_fed.proofs.Showing.{shown-call, shown-same}
use Rattle.td_fed.specs.Calling.{IsPeered, IsPeeredSoFar, AsksOutside, called, not_called}
use Rattle.td_fed.specs.Calling.{replied, unreached, unreplied, unvalued, valued}
use Rattle.td_fed.specs.Entering.{IsAsked, IsAskedSoFar, NotesFault}
use Rattle.td_fed.specs.Entering.{answered as has-answer, had_answer, not_asked}
use Rattle.td_fed.specs.Trails.{IsShown}
use Rattle.td_fed.specs.declared.outside.Asking.TheVariants as asking
use Rattle.td_ior.specs.Profiles.{iiop_of}
use Rattle.td_ior.specs.declared.profile.Iiop.{Iiop}
use Rattle.td_ops.specs.declared.call.Query.{Query}
use Rattle.td_trader.specs.Worlds.{View}
use Rattle.td_walk.specs.Peering.{Exchange, PeerAnswer, HasSmallOffers, IsNoted, PeerCall, Querying, Evaluating}
use Rattle.td_walk.specs.Peering.{exchange, is_memory}
use Rattle.td_walk.specs.Peering.{Answered as Replied, Evaluated as Valued, Failed as Missed}
use Rattle.td_walk.specs.declared.answer.Next.{Next}
use Rattle.td_walk.specs.declared.answer.Next.TheVariants.{Evaluate, Forward}
use Rattle.td_walk.specs.declared.answer.StepAnswer.{StepAnswer}
use Rattle.td_walk.specs.declared.answer.StepAnswer.TheVariants as answer
use Rattle.td_walk.specs.declared.answer.SubAnswer.{SubAnswer}
use Rattle.td_walk.specs.declared.fault.PeerFault.{PeerFault}
use Rattle.td_walk.specs.declared.fault.PeerFault.TheVariants as fault
use Rattle.td_walk.specs.declared.trace.TraceItem.{TraceItem}
use Rattle.td_walk.specs.declared.trace.TraceItem.TheVariants as item
use Rattle.td_query_walk.specs.Walks.{WalkState, Start, Step, evaluated, outside, no_memory_with, unevaluated}
use Rattle.td_query_walk.specs.Walks.{unreachable}

-- ---- when memory ran out

pub on-err : {X : Type 0} {P : Type 0} (r : Result X OutOfMemory) → P → OnErr r P
on-err (Ok x) p = tt
on-err (Err m) p = p

no-err : {X : Type 0} (P : Type 0) (r : Result X OutOfMemory) (x : X) → r ≡ Ok x → OnErr r P
no-err {X = X} P r x is = subst (λ (s : Result X OutOfMemory). OnErr s P) (sym is) tt

pub nothing-called : (calls now : List Exchange) (question : Next) (before after : List TraceItem) → now ≡ calls
    → after ≡ before → IsPeeredSoFar calls question before after now
nothing-called calls now question before after same kept =
    subst (λ (n : List Exchange). IsPeeredSoFar calls question before after n) (sym same)
    (subst (λ (t : List TraceItem). IsPeeredSoFar calls question before t calls) (sym kept) not_called)

-- ---- a call that failed

exchanged : {X : Type 0} (given : X → PeerAnswer) (call : PeerCall) (f : PeerFault) → is_memory f ≡ false
    → exchange given call (Err f) ≡ record { call = call; gave = Missed f } ∷ []
exchanged given call fault.Memory h = absurd (let bad : ⊥ = cc in bad)
exchanged given call fault.Wire h = refl
exchanged given call fault.Grammar h = refl
exchanged given call fault.Exception h = refl

-- where it is noted there is no answer
on-fault : (P : StepAnswer → Type 0) (f : PeerFault) (before after : List TraceItem) (r : Result StepAnswer OutOfMemory)
    → NotesFault f before after r → (is_memory f ≡ false → after ≡ before ++ item.Failed f ∷ [] → P answer.Failed)
    → IfOk r P
on-fault P fault.Memory before after r n h = subst (λ (x : Result StepAnswer OutOfMemory). IfOk x P) (sym n.0) tt
on-fault P fault.Wire before after r n h =
    subst (λ (x : Result StepAnswer OutOfMemory). IfOk x P) (sym n.0) (h refl n.1)
on-fault P fault.Grammar before after r n h =
    subst (λ (x : Result StepAnswer OutOfMemory). IfOk x P) (sym n.0) (h refl n.1)
on-fault P fault.Exception before after r n h =
    subst (λ (x : Result StepAnswer OutOfMemory). IfOk x P) (sym n.0) (h refl n.1)

-- where a call ran out of memory, nothing was done; where it failed otherwise, there is an answer
pub fault-so-far : {X : Type 0} (given : X → PeerAnswer) (call : PeerCall) (question : Next) (f : PeerFault)
    (calls now : List Exchange) (faults later : ℕ) (before middle after : List TraceItem)
    (r : Result StepAnswer OutOfMemory) → IsNoted given call calls now faults later (Err f) → middle ≡ before
    → NotesFault f middle after r → OnErr r (IsPeeredSoFar calls question before after now)
fault-so-far given call question fault.Memory calls now faults later before middle after r noted kept n =
    on-err r (nothing-called calls now question before after (noted.calls ∙ append-nil calls) (n.1 ∙ kept))
fault-so-far given call question fault.Wire calls now faults later before middle after r noted kept n =
    no-err (IsPeeredSoFar calls question before after now) r answer.Failed n.0
fault-so-far given call question fault.Grammar calls now faults later before middle after r noted kept n =
    no-err (IsPeeredSoFar calls question before after now) r answer.Failed n.0
fault-so-far given call question fault.Exception calls now faults later before middle after r noted kept n =
    no-err (IsPeeredSoFar calls question before after now) r answer.Failed n.0

pub shown-fault : {X : Type 0} (given : X → PeerAnswer) (w : List View) (call : PeerCall) (f : PeerFault)
    (calls now : List Exchange) (faults later : ℕ) (before middle after : List TraceItem)
    (r : Result StepAnswer OutOfMemory) → IsNoted given call calls now faults later (Err f) → middle ≡ before
    → NotesFault f middle after r → IsShown w calls before after w now
shown-fault given w call fault.Memory calls now faults later before middle after r noted kept n =
    shown-same w calls now before after (noted.calls ∙ append-nil calls) (n.1 ∙ kept)
shown-fault given w call fault.Wire calls now faults later before middle after r noted kept n =
    shown-call w calls now (record { call = call; gave = Missed fault.Wire }) before middle after
    (item.Failed fault.Wire) noted.calls kept n.1 (λ k. refl) (λ k. refl) refl
shown-fault given w call fault.Grammar calls now faults later before middle after r noted kept n =
    shown-call w calls now (record { call = call; gave = Missed fault.Grammar }) before middle after
    (item.Failed fault.Grammar) noted.calls kept n.1 (λ k. refl) (λ k. refl) refl
shown-fault given w call fault.Exception calls now faults later before middle after r noted kept n =
    shown-call w calls now (record { call = call; gave = Missed fault.Exception }) before middle after
    (item.Failed fault.Exception) noted.calls kept n.1 (λ k. refl) (λ k. refl) refl

-- ---- an evaluation

-- an evaluator that can be reached has a profile
reached : (o : Option Iiop) → is_some o ≡ true → (p : Iiop) × (o ≡ Some p)
reached None h = absurd (let bad : ⊥ = cc in bad)
reached (Some p) h = (p, refl)

unreached-so : (o : Option Iiop) → is_some o ≡ false → o ≡ None
unreached-so None h = refl
unreached-so (Some p) h = absurd (let bad : ⊥ = cc in bad)

module _ (e : Ior) (name : List ℕ) (returned : TypeCode) (extra : Any) (calls now : List Exchange)
    (before middle after : List TraceItem) where
  pub is-unreached : is_some (iiop_of e) ≡ false → now ≡ calls → middle ≡ before
      → after ≡ middle ++ item.Unreachable ∷ []
      → IsPeered calls (Evaluate e name returned extra) answer.Failed before after now
  is-unreached gone same kept noted = record {
    head = item.Unreachable;
    notes = noted ∙ ap (λ t. t ++ item.Unreachable ∷ []) kept;
    peered = subst (λ (n : List Exchange). AsksOutside calls (Evaluate e name returned extra) answer.Failed
        item.Unreachable n) (sym same) (unreached e name returned extra (unreached-so (iiop_of e) gone));
  }

  is-valued-so : (value : Any) (faults later : ℕ) → is_some (iiop_of e) ≡ true
      → IsNoted (λ v. Valued v) (Evaluating e name returned extra) calls now faults later (Ok value) → middle ≡ before
      → after ≡ middle ++ item.Evaluated value ∷ []
      → IsPeered calls (Evaluate e name returned extra) (answer.Evaluated value) before after now
  is-valued-so value faults later there noted kept n =
      let profile = reached (iiop_of e) there in
      record {
        head = item.Evaluated value;
        notes = n ∙ ap (λ t. t ++ item.Evaluated value ∷ []) kept;
        peered = subst (λ (n : List Exchange). AsksOutside calls (Evaluate e name returned extra) (answer.Evaluated value)
            (item.Evaluated value) n) (sym noted.calls) (valued e name returned extra value profile.0 profile.1);
      }

  pub is-valued : (value : Any) (faults later : ℕ) (r : Result StepAnswer OutOfMemory) → is_some (iiop_of e) ≡ true
      → IsNoted (λ v. Valued v) (Evaluating e name returned extra) calls now faults later (Ok value) → middle ≡ before
      → after ≡ middle ++ item.Evaluated value ∷ [] → IfOk r (λ a. a ≡ answer.Evaluated value)
      → IfOk r (λ a. IsPeered calls (Evaluate e name returned extra) a before after now)
  is-valued value faults later (Ok a) there noted kept n is =
      subst (λ (x : StepAnswer). IsPeered calls (Evaluate e name returned extra) x before after now) (sym is)
      (is-valued-so value faults later there noted kept n)
  is-valued value faults later (Err m) there noted kept n is = tt

  pub valued-so-far : (value : Any) (faults later : ℕ) (r : Result StepAnswer OutOfMemory) → is_some (iiop_of e) ≡ true
      → IsNoted (λ v. Valued v) (Evaluating e name returned extra) calls now faults later (Ok value) → middle ≡ before
      → after ≡ middle ++ item.Evaluated value ∷ []
      → OnErr r (IsPeeredSoFar calls (Evaluate e name returned extra) before after now)
  valued-so-far value faults later r there noted kept n =
      on-err r (called (answer.Evaluated value) (is-valued-so value faults later there noted kept n))

  pub is-unvalued : (f : PeerFault) (faults later : ℕ) (r : Result StepAnswer OutOfMemory) → is_some (iiop_of e) ≡ true
      → IsNoted {X = Any} (λ v. Valued v) (Evaluating e name returned extra) calls now faults later (Err f)
      → middle ≡ before → NotesFault f middle after r
      → IfOk r (λ a. IsPeered calls (Evaluate e name returned extra) a before after now)
  is-unvalued f faults later r there noted kept n =
      let profile = reached (iiop_of e) there in
      on-fault (λ a. IsPeered calls (Evaluate e name returned extra) a before after now) f middle after r n
      (λ other is. record {
        head = item.Failed f;
        notes = is ∙ ap (λ t. t ++ item.Failed f ∷ []) kept;
        peered = subst (λ (n : List Exchange). AsksOutside calls (Evaluate e name returned extra) answer.Failed
            (item.Failed f) n)
            (sym (noted.calls ∙ ap (λ t. calls ++ t) (exchanged {X = Any} (λ v. Valued v)
            (Evaluating e name returned extra) f other)))
            (unvalued e name returned extra profile.0 f profile.1 other);
      })

-- ---- a query

module _ (target : Ior) (q : Query) (calls now : List Exchange) (before middle after : List TraceItem) where
  is-replied-so : (a : SubAnswer) (faults later : ℕ) → HasSmallOffers a
      → IsNoted (λ x. Replied x) (Querying target q) calls now faults later (Ok a) → middle ≡ before
      → after ≡ middle ++ item.Outside a ∷ [] → IsPeered calls (Forward target q) (answer.Offers a) before after now
  is-replied-so a faults later small noted kept n = record {
    head = item.Outside a;
    notes = n ∙ ap (λ t. t ++ item.Outside a ∷ []) kept;
    peered = subst (λ (n : List Exchange). AsksOutside calls (Forward target q) (answer.Offers a) (item.Outside a) n)
        (sym noted.calls) (replied target q a small);
  }

  pub is-replied : (a : SubAnswer) (faults later : ℕ) (r : Result StepAnswer OutOfMemory) → HasSmallOffers a
      → IsNoted (λ x. Replied x) (Querying target q) calls now faults later (Ok a) → middle ≡ before
      → after ≡ middle ++ item.Outside a ∷ [] → IfOk r (λ x. x ≡ answer.Offers a)
      → IfOk r (λ x. IsPeered calls (Forward target q) x before after now)
  is-replied a faults later (Ok x) small noted kept n is =
      subst (λ (y : StepAnswer). IsPeered calls (Forward target q) y before after now) (sym is)
      (is-replied-so a faults later small noted kept n)
  is-replied a faults later (Err m) small noted kept n is = tt

  pub replied-so-far : (a : SubAnswer) (faults later : ℕ) (r : Result StepAnswer OutOfMemory) → HasSmallOffers a
      → IsNoted (λ x. Replied x) (Querying target q) calls now faults later (Ok a) → middle ≡ before
      → after ≡ middle ++ item.Outside a ∷ [] → OnErr r (IsPeeredSoFar calls (Forward target q) before after now)
  replied-so-far a faults later r small noted kept n =
      on-err r (called (answer.Offers a) (is-replied-so a faults later small noted kept n))

  pub is-unreplied : (f : PeerFault) (faults later : ℕ) (r : Result StepAnswer OutOfMemory)
      → IsNoted {X = SubAnswer} (λ x. Replied x) (Querying target q) calls now faults later (Err f) → middle ≡ before
      → NotesFault f middle after r → IfOk r (λ x. IsPeered calls (Forward target q) x before after now)
  is-unreplied f faults later r noted kept n =
      on-fault (λ x. IsPeered calls (Forward target q) x before after now) f middle after r n
      (λ other is. record {
        head = item.Failed f;
        notes = is ∙ ap (λ t. t ++ item.Failed f ∷ []) kept;
        peered = subst (λ (n : List Exchange). AsksOutside calls (Forward target q) answer.Failed (item.Failed f) n)
            (sym (noted.calls ∙ ap (λ t. calls ++ t) (exchanged {X = SubAnswer} (λ x. Replied x) (Querying target q) f
            other)))
            (unreplied target q f other);
      })

-- ---- as a step of a walk

module _ {World : Type 0} (Begins : World → (trader : ℕ) → Query → Start → World → Type 0)
    (inside : World → (target : Ior) → Option ℕ) (s : WalkState World) where
  -- no trader of the group answers it
  abbrev pub IsForOthers : Next → Type 0
  IsForOthers question = (target : Ior) (q : Query) → question ≡ Forward target q → inside s.world target ≡ None

  step-of : (question : Next) (r : StepAnswer) (i : TraceItem) (now : List Exchange) → IsForOthers question
      → AsksOutside s.calls question r i now → Step Begins inside s question (i ∷ []) r (record s { calls = now })
  step-of question r i now others (replied target q a small) = outside (others target q refl) small
  step-of question r i now others (unreplied target q f other) = no_memory_with (others target q refl) other
  step-of question r i now others (valued e name returned extra value p is) = evaluated is
  step-of question r i now others (unvalued e name returned extra p f is other) = unevaluated is other
  step-of question r i now others (unreached e name returned extra is) = unreachable is

  pub peered-asked : (question : Next) (r : StepAnswer) (before after : List TraceItem) (now : List Exchange)
      → IsForOthers question → IsPeered s.calls question r before after now
      → IsAsked Begins inside s question (asking.Answered r) before after (record s { calls = now })
  peered-asked question r before after now others p = record {
    items = p.head ∷ [];
    notes = p.notes;
    asks = has-answer (step-of question r p.head now others p.peered);
  }

  -- where it ran out of memory
  pub peered-so-far : (Watches : World → (trader : ℕ) → World → Type 0) (question : Next)
      (before after : List TraceItem) (now : List Exchange) → IsForOthers question
      → IsPeeredSoFar s.calls question before after now
      → IsAskedSoFar Begins Watches inside s question before after (record s { calls = now })
  peered-so-far Watches question before after now others not_called = record {
    items = [];
    notes = sym (append-nil before);
    asks = not_asked;
  }
  peered-so-far Watches question before after now others (called r p) = record {
    items = p.head ∷ [];
    notes = p.notes;
    asks = had_answer (step-of question r p.head now others p.peered);
  }

  -- an evaluation is
  pub evaluates : (e : Ior) (name : List ℕ) (returned : TypeCode) (extra : Any)
      → IsForOthers (Evaluate e name returned extra)
  evaluates e name returned extra target q h = absurd (let bad : ⊥ = cc in bad)

  -- a query of a target that isn't in the group is
  pub outsides : (target : Ior) (q : Query) → inside s.world target ≡ None → IsForOthers (Forward target q)
  outsides target q gone other r same =
      let e : target ≡ other = cc in subst (λ (t : Ior). inside s.world t ≡ None) e gone
