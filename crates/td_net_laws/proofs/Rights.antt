-- What holds of each call of a network, and how it is kept as calls are opened and go on.
use Rattle.std.proofs.Common.{◌≡◌, ℕ, zero, suc, ◌+◌, ◌<◌, ◌≤◌, List, [], ◌∷◌, ◌++◌, length, slice_get, slice_set}
use Rattle.std.proofs.Common.{Option}
use Rattle.std.proofs.Common.{Some, None, is_some, Bool, true, false, refl, sym, ◌∙◌, ap, subst, arith, ◌⊎◌, inl, inr}
use Rattle.td_typecode.specs.declared.code.Any.{Any}
use Rattle.td_typecode.specs.declared.code.TypeCode.{TypeCode}
use Rattle.td_typecode.specs.declared.reference.Ior.{Ior}
use Rattle.td_ior.specs.Profiles.{iiop_of}
use Rattle.td_net.specs.declared.call.Call.{Call}
use Rattle.td_net.specs.declared.call.Delivery.{Delivery}
use Rattle.td_net.specs.declared.call.Stage.{Stage}
use Rattle.td_net.specs.declared.call.Stage.TheVariants.{Sent, Running, Evaluating, Waiting, Ended}
use Rattle.td_net.specs.declared.call.QuestionStep.{QuestionStep}
use Rattle.td_net_laws.proofs.Below.{IsLocal, carried}
use Rattle.td_net_laws.proofs.Marking.{same_or_not}
use Rattle.td_net_laws.proofs.Places.{get-set_same, get-set_other, get-set, get-more, get-append}
use Rattle.td_net_laws.specs.Arrivals.{Way, Nowhere, Along, Here, HasReadPolicies, identifier_at, is_here, path_at}
use Rattle.td_net_laws.specs.Arrivals.{search_at}
use Rattle.td_net_laws.specs.Arrivals.{stated_identifier, way_of}
use Rattle.td_net_laws.specs.Steps.{GivesAnswer, AsksEach, EndedAs, Led, IsSubCall, HasSteps}
use Rattle.td_net_laws.specs.Steps.{given, lost, nothing_yet, outside, unreachable, unvalued, valued}
use Rattle.td_ops.specs.declared.call.Query.{Query}
use Rattle.td_store.specs.declared.local.Local.{Local}
use Rattle.td_trader.specs.Beginning.{is_search}
use Rattle.td_trader.specs.PlainTraders.{PlainTrader, begin_at}
use Rattle.td_visit.specs.Standing.{FrameState}
use Rattle.td_walk.specs.Visits.{next_of}
use Rattle.td_walk.specs.declared.answer.Next.TheVariants.{Evaluate, Forward}
use Rattle.td_walk.specs.declared.answer.StepAnswer.{StepAnswer}
use Rattle.td_walk.specs.declared.answer.SubAnswer.{SubAnswer}
use Rattle.td_walk.specs.declared.trace.Visit.{Visit}
use Rattle.td_query_walk.specs.Walks.{answer_in}

-- ---- what holds of a call

-- how a query begins at a trader, as a truth value
abbrev pub seeks : PlainTrader → Query → Bool
seeks t q = is_search (begin_at t q)

-- its visit stands there, with the answers of its steps
pub record Stands (calls : List Call) (inside : Ior → Option ℕ) (c : ℕ) (k : Call) (f : FrameState) : Type 0 where
  pub delivery : Delivery
  pub delivered : k.delivery ≡ Some delivery
  pub local : IsLocal (way_of delivery.seen.value k.query) (seeks delivery.seen.value k.query)
      delivery.seen.value k.query
      f.local
  pub led : Led calls inside c f.local f.answers k.steps

-- it waits for a value
pub record AsksValue (l : Local) (rs : List StepAnswer) : Type 0 where
  pub evaluator : Ior
  pub name : List ℕ
  pub returned : TypeCode
  pub extra : Any
  pub asks : next_of l rs ≡ Evaluate evaluator name returned extra
  pub reachable : is_some (iiop_of evaluator) ≡ true

-- it waits for the call of this number
pub record AsksCall (calls : List Call) (inside : Ior → Option ℕ) (c : ℕ) (l : Local) (rs : List StepAnswer) (sub : ℕ)
    : Type 0 where
  pub target : Ior
  pub query : Query
  pub number : ℕ
  pub asks : next_of l rs ≡ Forward target query
  pub within : inside target ≡ Some number
  pub opened : IsSubCall calls c number query sub

pub record Over (calls : List Call) (inside : Ior → Option ℕ) (c : ℕ) (ws : List ℕ) (k : Call)
    (v : Visit) : Type 0 where
  pub delivery : Delivery
  pub delivered : k.delivery ≡ Some delivery
  pub is : GivesAnswer calls inside c (EndedAs calls) ws k delivery.seen.value (answer_in v)
      (way_of delivery.seen.value k.query) (seeks delivery.seen.value k.query)

abbrev pub StageRight : List Call → (Ior → Option ℕ) → ℕ → List ℕ → Call → Stage → Type 0
StageRight calls inside c ws k Sent = k.delivery ≡ None
StageRight calls inside c ws k Running = ⊥
StageRight calls inside c ws k (Evaluating f) = Stands calls inside c k f × AsksValue f.local f.answers
StageRight calls inside c ws k (Waiting f sub) =
    Stands calls inside c k f × AsksCall calls inside c f.local f.answers sub
StageRight calls inside c ws k (Ended v) = Over calls inside c ws k v

abbrev pub visits_by : Call → Delivery → Bool
visits_by k d = is_here (way_of d.seen.value k.query)

-- Its caller was delivered before, and its query could be read; the call states what this hands on, if it can be read.
pub record HasCaller (calls : List Call) (c : ℕ) (k : Call) (p : ℕ) : Type 0 where
  pub before : p < c
  pub call : Call
  pub is : slice_get calls p ≡ Some call
  pub root : call.root ≡ k.root
  pub delivery : Delivery
  pub delivered : call.delivery ≡ Some delivery
  pub read : HasReadPolicies call.query
  pub states : HasReadPolicies k.query → stated_identifier k.query
      ≡ carried (visits_by call delivery) (stated_identifier call.query)
      (identifier_at delivery.seen.value call.query)

-- a call that an Ask opened is its own root
abbrev pub CallerRight : List Call → ℕ → Call → Option ℕ → Type 0
CallerRight calls c k None = k.root ≡ c
CallerRight calls c k (Some p) = HasCaller calls c k p

-- where the Ask states an identifier, the call does, if its query can be read
pub record RootRight (calls : List Call) (k : Call) : Type 0 where
  pub call : Call
  pub is : slice_get calls k.root ≡ Some call
  pub asked : call.caller ≡ None
  pub identifier : HasReadPolicies k.query → (id : List ℕ) → stated_identifier call.query ≡ Some id
      → stated_identifier k.query ≡ Some id

pub record Right (calls : List Call) (inside : Ior → Option ℕ) (c : ℕ) (ws : List ℕ) (k : Call) : Type 0 where
  pub old : k.root ≤ c
  pub root : RootRight calls k
  pub caller : CallerRight calls c k k.caller
  pub stage : StageRight calls inside c ws k k.stage

abbrev pub Rights : List Call → (Ior → Option ℕ) → List ℕ → Type 0
Rights calls inside ws = (c : ℕ) (k : Call) → slice_get calls c ≡ Some k → Right calls inside c ws k

-- ---- later lists of calls

-- what of a call never changes, and that an ended one keeps its visit
pub record Same (k m : Call) : Type 0 where
  pub target : m.target ≡ k.target
  pub query : m.query ≡ k.query
  pub root : m.root ≡ k.root
  pub caller : m.caller ≡ k.caller
  pub ended : (v : Visit) → k.stage ≡ Ended v → m.stage ≡ Ended v
  pub delivery : (d : Delivery) → k.delivery ≡ Some d → m.delivery ≡ Some d

pub same-itself : (k : Call) → Same k k
same-itself k = record {
  target = refl;
  query = refl;
  root = refl;
  caller = refl;
  ended = λ v e. e;
  delivery = λ d e. e;
}

-- each call is still there
pub record Still (calls later : List Call) (c : ℕ) (k : Call) : Type 0 where
  pub call : Call
  pub is : slice_get later c ≡ Some call
  pub same : Same k call

abbrev pub Later : List Call → List Call → Type 0
Later calls later = (c : ℕ) (k : Call) → slice_get calls c ≡ Some k → Still calls later c k

pub later-same : (calls : List Call) → Later calls calls
later-same calls c k is = record { call = k; is = is; same = same-itself k }

pub later-set : (calls : List Call) (c : ℕ) (k m : Call) → slice_get calls c ≡ Some k → Same k m
    → Later calls (slice_set calls c m)
later-set calls c k m is same d x here =
    elim (same_or_not d c) as (λ z. Still calls (slice_set calls c m) d x) [
      | inl e ↦ record {
        call = m;
        is = subst (λ z. slice_get (slice_set calls c m) z ≡ Some m) (sym e) (get-set_same calls c k m is);
        same =
            subst (λ z. Same z m)
            (let h : slice_get calls c ≡ Some x = subst (λ z. slice_get calls z ≡ Some x) e here in cc) same;
      }
      | inr e ↦ record { call = x; is = get-set_other calls c d m e ∙ here; same = same-itself x }
    ]

pub later-more : (calls : List Call) (m : Call) → Later calls (calls ++ m ∷ [])
later-more calls m c k is = record { call = k; is = get-more calls (m ∷ []) c k is; same = same-itself k }

pub later-on : (a b c : List Call) → Later a b → Later b c → Later a c
later-on a b c f g i k is =
    let x = f i k is in
    let y = g i x.call x.is in record {
      call = y.call;
      is = y.is;
      same = record {
        target = y.same.target ∙ x.same.target;
        query = y.same.query ∙ x.same.query;
        root = y.same.root ∙ x.same.root;
        caller = y.same.caller ∙ x.same.caller;
        ended = λ v e. y.same.ended v (x.same.ended v e);
        delivery = λ d e. y.same.delivery d (x.same.delivery d e);
      };
    }

module _ (calls later : List Call) (inside : Ior → Option ℕ) (ws : List ℕ) (goes : Later calls later) where
  pub opened-later : (c k : ℕ) (q : Query) (d : ℕ) → IsSubCall calls c k q d → IsSubCall later c k q d
  opened-later c k q d o =
      let s = goes d o.call o.is in record {
        call = s.call;
        is = s.is;
        at = s.same.target ∙ o.at;
        asks = s.same.query ∙ o.asks;
        by = s.same.caller ∙ o.by;
      }

  ended-later : (d : ℕ) (a : SubAnswer) → EndedAs calls d a → EndedAs later d a
  ended-later d a e =
      let s = goes d e.call e.is in record {
        call = s.call;
        visit = e.visit;
        is = s.is;
        ended = s.same.ended e.visit e.ended;
        gives = e.gives;
      }

  pub led-later : {c : ℕ} {l : Local} {rs : List StepAnswer} {ss : List QuestionStep} → Led calls inside c l rs ss
      → Led later inside c l rs ss
  led-later nothing_yet = nothing_yet
  led-later (outside s is out) = outside (led-later s) is out
  led-later (unreachable s is far) = unreachable (led-later s) is far
  led-later (unvalued s is near) = unvalued (led-later s) is near
  led-later (valued v s is near) = valued v (led-later s) is near
  led-later {c = c} (lost {k = k} {q = q} {d = d} s is at o) = lost (led-later s) is at (opened-later c k q d o)
  led-later {c = c} (given {k = k} {q = q} {d = d} {a = a} s is at o e) =
      given (led-later s) is at (opened-later c k q d o) (ended-later d a e)

  asked-later : (c : ℕ) (k : Call) (a : SubAnswer) (l : Local) → AsksEach calls inside c (EndedAs calls) ws k a l
      → AsksEach later inside c (EndedAs later) ws k a l
  asked-later c k a l x = record {
    answers = x.answers;
    content = led-later x.content;
    none_left = x.none_left;
    is_answer = x.is_answer;
  }

  answered-later : (c : ℕ) (k : Call) (t : PlainTrader) (a : SubAnswer) (w : Way) (s : Bool)
      → GivesAnswer calls inside c (EndedAs calls) ws k t a w s → GivesAnswer later inside c (EndedAs later) ws k t a w s
  answered-later c k t a Nowhere s x = x
  answered-later c k t a (Along link) s x = asked-later c k a (path_at t link k.query) x
  answered-later c k t a Here false x = x
  answered-later c k t a Here true x = asked-later c k a (search_at t k.query) x

  stands-later : (c : ℕ) (k : Call) (f : FrameState) → Stands calls inside c k f → Stands later inside c k f
  stands-later c k f x = record {
    delivery = x.delivery;
    delivered = x.delivered;
    local = x.local;
    led = led-later x.led;
  }

  stage-later : (c : ℕ) (k : Call) (s : Stage) → StageRight calls inside c ws k s → StageRight later inside c ws k s
  stage-later c k Sent x = x
  stage-later c k Running x = x
  stage-later c k (Evaluating f) x = (stands-later c k f x.0, x.1)
  stage-later c k (Waiting f sub) x = (
    stands-later c k f x.0,
    record {
      target = x.1.target;
      query = x.1.query;
      number = x.1.number;
      asks = x.1.asks;
      within = x.1.within;
      opened = opened-later c x.1.number x.1.query sub x.1.opened;
    },
  )
  stage-later c k (Ended v) x = record {
    delivery = x.delivery;
    delivered = x.delivered;
    is =
        answered-later c k x.delivery.seen.value (answer_in v) (way_of x.delivery.seen.value k.query)
        (seeks x.delivery.seen.value k.query) x.is;
  }

  caller-later : (c : ℕ) (k : Call) (o : Option ℕ) → CallerRight calls c k o → CallerRight later c k o
  caller-later c k None x = x
  caller-later c k (Some p) x =
      let s = goes p x.call x.is in record {
        before = x.before;
        call = s.call;
        is = s.is;
        root = s.same.root ∙ x.root;
        delivery = x.delivery;
        delivered = s.same.delivery x.delivery x.delivered;
        read = subst HasReadPolicies (sym s.same.query) x.read;
        states = λ read. x.states read
            ∙ ap (λ (z : Query). carried (is_here (way_of x.delivery.seen.value z)) (stated_identifier z)
            (identifier_at x.delivery.seen.value z)) (sym s.same.query);
      }

  root-later : (k : Call) → RootRight calls k → RootRight later k
  root-later k x =
      let s = goes k.root x.call x.is in record {
        call = s.call;
        is = s.is;
        asked = s.same.caller ∙ x.asked;
        identifier = λ read id e. x.identifier read id (ap stated_identifier (sym s.same.query) ∙ e);
      }

  pub right-later : (c : ℕ) (k : Call) → Right calls inside c ws k → Right later inside c ws k
  right-later c k x = record {
    old = x.old;
    root = root-later k x.root;
    caller = caller-later c k k.caller x.caller;
    stage = stage-later c k k.stage x.stage;
  }

-- a call is written anew
pub rights-set : (calls : List Call) (inside : Ior → Option ℕ) (c : ℕ) (ws : List ℕ) (k m : Call)
    → Rights calls inside ws → slice_get calls c ≡ Some k → Same k m → Right calls inside c ws m
    → Rights (slice_set calls c m) inside ws
rights-set calls inside c ws k m rights is same right d x here =
    let goes = later-set calls c k m is same in
    elim (get-set calls c d k m x is here) as (λ z. Right (slice_set calls c m) inside d ws x) [
      | inl e ↦
          right-later calls (slice_set calls c m) inside ws goes d x
          (subst (λ z. Right calls inside z ws x) (sym e.0) (subst (λ z. Right calls inside c ws z) e.1 right))
      | inr e ↦ right-later calls (slice_set calls c m) inside ws goes d x (rights d x e.1)
    ]

-- a call is opened
pub rights-open : (calls : List Call) (inside : Ior → Option ℕ) (ws : List ℕ) (m : Call) → Rights calls inside ws
    → Right (calls ++ m ∷ []) inside (length calls) ws m → Rights (calls ++ m ∷ []) inside ws
rights-open calls inside ws m rights right d x here =
    elim (get-append calls m d x here) as (λ z. Right (calls ++ m ∷ []) inside d ws x) [
      | inl e ↦
          subst (λ z. Right (calls ++ m ∷ []) inside z ws x) (sym e.0)
          (subst (λ z. Right (calls ++ m ∷ []) inside (length calls) ws z) e.1 right)
      | inr e ↦ right-later calls (calls ++ m ∷ []) inside ws (later-more calls m) d x (rights d x e)
    ]
