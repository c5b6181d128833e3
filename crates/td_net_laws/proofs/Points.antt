-- What a call saw of its trader stays the trader's past.
use Rattle.std.proofs.Common.{◌≡◌, ℕ, List, [], ◌∷◌, ◌++◌, length, take, slice_get, slice_set, Some, None, refl}
use Rattle.std.proofs.Common.{sym, ◌∙◌}
use Rattle.std.proofs.Common.{ap, subst, inl, inr, append-nil, append_assoc}
use Rattle.td_changes.specs.Histories.{after_all, at}
use Rattle.td_net_laws.proofs.Marking.{at-append, at-old}
use Rattle.td_net_laws.proofs.Places.{get-set}
use Rattle.td_net_laws.specs.Always.{IsPast}
use Rattle.td_net_laws.specs.Arrivals.{Arrival, ArrivesAt, CallHead}
use Rattle.td_ops.specs.declared.call.Change.{Change}
use Rattle.td_ops.specs.declared.call.Query.{Query}
use Rattle.td_ops.specs.declared.outcome.Outcome.{Outcome}
use Rattle.td_ops.specs.declared.outcome.Outcome.TheVariants.{Done, User, System}
use Rattle.td_register.specs.Entries.{entry}
use Rattle.td_register.specs.Stores.{Store}
use Rattle.td_register.specs.declared.history.Accepted.{Accepted}
use Rattle.td_trader.specs.PlainTraders.{PlainTrader, after_begin, after_change, after_outcome, outcome_of, store_of}
use Rattle.td_trader.specs.declared.begin.Begin.{Begin}
use Rattle.td_trader_laws.specs.Reaching.{AreReached, IsReached}

-- changes were accepted since, and marks may be others
pub record Past (s t : PlainTrader) : Type 0 where
  pub name : s.name ≡ t.name
  pub opening : s.opening ≡ t.opening
  pub bounds : s.bounds ≡ t.bounds
  pub more : List Accepted
  pub history : t.history ≡ s.history ++ more

past-itself : (t : PlainTrader) → Past t t
past-itself t = record { name = refl; opening = refl; bounds = refl; more = []; history = sym (append-nil t.history) }

past-on : (s t u : PlainTrader) → Past s t → Past t u → Past s u
past-on s t u a b = record {
  name = a.name ∙ b.name;
  opening = a.opening ∙ b.opening;
  bounds = a.bounds ∙ b.bounds;
  more = a.more ++ b.more;
  history = b.history ∙ (ap (λ z. z ++ b.more) a.history ∙ append_assoc s.history a.more b.more);
}

past-outcome : (t : PlainTrader) (c : Change) (o : Outcome) → Past t (after_outcome t c o)
past-outcome t c (Done content) = record {
  name = refl;
  opening = refl;
  bounds = refl;
  more = entry c content ∷ [];
  history = refl;
}
past-outcome t c (User e) = past-itself t
past-outcome t c (System kind minor completion) = past-itself t

pub past-change : (t : PlainTrader) (c : Change) → Past t (after_change t c)
past-change t c = past-outcome t c (outcome_of t c)

pub past-begin : (t : PlainTrader) (q : Query) (b : Begin) → Past t (after_begin t q b)
past-begin t q b = record {
  name = refl;
  opening = refl;
  bounds = refl;
  more = [];
  history = sym (append-nil t.history);
}

take-front : {X : Type 0} (xs ys : List X) → take (length xs) (xs ++ ys) ≡ xs
take-front [] ys = refl
take-front (x ∷ xs) ys = ap (λ z. x ∷ z) (take-front xs ys)

-- so the store is the one of that point
pub past-is : (s t : PlainTrader) → Past s t → IsPast s t
past-is s t p = record {
  name = p.name;
  opening = p.opening;
  bounds = p.bounds;
  more = p.more;
  history = p.history;
  store =
      ap (λ (z : Store). after_all z s.history) p.opening
      ∙ (ap (after_all t.opening) (sym (take-front s.history p.more))
      ∙ ap (λ (z : List Accepted). at t.opening z (length s.history)) (sym p.history));
}

-- ---- of all calls

abbrev pub Points : List PlainTrader → List CallHead → Type 0
Points ts hs =
    (h : CallHead) (d : Arrival) (t : PlainTrader) → ArrivesAt hs h d → slice_get ts h.target ≡ Some t → Past d.seen t

pub points-open : (ts : List PlainTrader) (hs : List CallHead) (x : CallHead) → x.arrival ≡ None → Points ts hs
    → Points ts (hs ++ x ∷ [])
points-open ts hs x none p h d t a is = p h d t (at-append hs x h d none a) is

pub points-set : (ts : List PlainTrader) (hs : List CallHead) (n : ℕ) (t u : PlainTrader) → slice_get ts n ≡ Some t
    → Past t u → Points ts hs → Points (slice_set ts n u) hs
points-set ts hs n t u is past p h d v a here =
    elim (get-set ts n h.target t u v is here) as (λ z. Past d.seen v) [
      | inl y ↦
          subst (Past d.seen) y.1
          (past-on d.seen t u (p h d t a (subst (λ z. slice_get ts z ≡ Some t) (sym y.0) is)) past)
      | inr y ↦ p h d v a y.1
    ]

pub points-deliver : (ts : List PlainTrader) (hs : List CallHead) (c : ℕ) (o x : CallHead) (e : Arrival) (t : PlainTrader)
    → slice_get hs c ≡ Some o → x.arrival ≡ Some e → slice_get ts x.target ≡ Some t → Past e.seen t → Points ts hs
    → Points ts (slice_set hs c x)
points-deliver ts hs c o x e t was is there past p h d u a here =
    elim (at-old hs c o x h e d was is a) as (λ z. Past d.seen u) [
      | inl y ↦ p h d u y here
      | inr y ↦
          (let at : slice_get ts h.target ≡ Some t = subst (λ (z : CallHead). slice_get ts z.target ≡ Some t) y.0 there in
          let same : t ≡ u = cc in
          subst (Past d.seen) same (subst (λ (z : Arrival). Past z.seen t) y.1 past))
    ]

pub reached-set : (ts : List PlainTrader) (n : ℕ) (t u : PlainTrader) → slice_get ts n ≡ Some t → IsReached u
    → AreReached ts → AreReached (slice_set ts n u)
reached-set ts n t u is reached all k v here =
    elim (get-set ts n k t u v is here) as (λ z. IsReached v) [
      | inl y ↦ subst IsReached y.1 reached
      | inr y ↦ all k v y.1
    ]

-- ---- a change makes no mark

outcome-marks : (t : PlainTrader) (c : Change) (o : Outcome) → (after_outcome t c o).marks ≡ t.marks
outcome-marks t c (Done content) = refl
outcome-marks t c (User e) = refl
outcome-marks t c (System kind minor completion) = refl

pub change-marks : (t : PlainTrader) (c : Change) → (after_change t c).marks ≡ t.marks
change-marks t c = outcome-marks t c (outcome_of t c)
