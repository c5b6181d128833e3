-- Traders that follow one another.
use Rattle.std.proofs.Common.{◌≡◌, ℕ, ◌+◌, false, List, [], ◌∷◌, ◌++◌, length, length-append, Ok, Err}
use Rattle.std.proofs.Common.{append_assoc, append-nil, inl, refl, sym, ap, subst, ◌∙◌, arith, Result}
use Rattle.td_cdr.specs.Marks.{Marks}
use Rattle.td_cdr.specs.declared.memory.Memory.{Memory}
use Rattle.td_cdr.proofs.Marking.{later_itself, later_on}
use Rattle.td_ops.specs.declared.call.Change.{Change}
use Rattle.td_marks.specs.Keeping.{AreRingMarks as AreMarks}
use Rattle.td_ops.specs.declared.call.Look.{Look}
use Rattle.td_ops.specs.declared.call.Query.{Query}
use Rattle.td_ops.specs.declared.outcome.Outcome.{Outcome}
use Rattle.td_ops.specs.declared.outcome.Outcome.TheVariants.{Done, User, System}
use Rattle.td_ops.specs.declared.outcome.Reply.{Reply}
use Rattle.td_changes.specs.Applying.{apply}
use Rattle.td_trader.specs.Admitted.{AdmitsChange, AreAdmitted}
use Rattle.td_trader.specs.Following.{ActsBegin, ActsChange, ActsLook, ActsOnce, BeginsOnce, Follows, FollowsWritably}
use Rattle.td_trader.specs.Following.{MarksOnce}
use Rattle.td_changes.specs.Histories.{Legal, LegalFrom, StandsAt, after_all, is_done, add_accepted}
use Rattle.td_register.specs.Entries.{entry}
use Rattle.td_changes.specs.Laws.{ExtendsLegally, applied_after}
use Rattle.td_trader.specs.PlainTraders.{AreBounds, PlainTrader, after_begin, after_change, after_outcome, begin_at}
use Rattle.td_trader.specs.PlainTraders.{outcome_of, store_of}
use Rattle.td_register.specs.Stores.{Store}
use Rattle.td_trader.specs.declared.begin.Begin.{Begin}
use Rattle.td_changes.specs.declared.bounds.Bounds.{Bounds}
use Rattle.td_register.specs.declared.history.Accepted.{Accepted}
use Rattle.td_changes.proofs.Extending.{extended}
use Rattle.td_trader.proofs.MarkedOnce.{later-once, marked-once}

-- ---- legal histories

pub after-append : (s : Store) (h more : List Accepted) → after_all s (h ++ more) ≡ after_all (after_all s h) more
unfolding after_all
after-append s [] more = refl
after-append s (x ∷ h) more = after-append (apply s x.change).store h more

pub legal-none : (b : Bounds) (n : ℕ) (s : Store) → LegalFrom b n s []
unfolding LegalFrom
legal-none b n s = tt

legal-one : (b : Bounds) (opening : Store) (h : List Accepted) (c : Change) (content : Reply) →
    (applied_after b opening h c).outcome ≡ Done content →
    LegalFrom b (length h) (after_all opening h) (entry c content ∷ [])
unfolding LegalFrom
legal-one b opening h c content e = (e, tt)

pub legal-append : (b : Bounds) (n : ℕ) (s : Store) (xs ys : List Accepted) → LegalFrom b n s xs →
    LegalFrom b (n + length xs) (after_all s xs) ys → LegalFrom b n s (xs ++ ys)
unfolding LegalFrom after_all
legal-append b n s [] ys l m = subst (λ (k : ℕ). LegalFrom b k s ys) (let z : n + 0 ≡ n = omega arith in z) m
legal-append b n s (x ∷ xs) ys l m =
    let k : n + length (x ∷ xs) ≡ (n + 1) + length xs = omega arith in
    let next = (apply s x.change).store in (
      l.0,
      legal-append b (n + 1) next xs ys l.1 (subst (λ (i : ℕ). LegalFrom b i (after_all next xs) ys) k m),
    )

-- ---- one trader and what it becomes

pub follows-itself : (t : PlainTrader) → Follows t t
follows-itself t = record {
  name = refl;
  opening = refl;
  bounds = refl;
  more = [];
  history = sym (append-nil t.history);
  legal = legal-none t.bounds (length t.history) (store_of t);
  marks = later_itself t.marks;
}

pub follows-on : (t u v : PlainTrader) → Follows t u → Follows u v → Follows t v
follows-on t u v p q =
    let size : length u.history ≡ length t.history + length p.more = ap length p.history ∙ length-append t.history
    p.more in
    let store : store_of u ≡ after_all (store_of t) p.more =
    ap (λ (s : Store). after_all s u.history) p.opening
    ∙ (ap (after_all t.opening) p.history ∙ after-append t.opening t.history p.more) in
    record {
      name = q.name ∙ p.name;
      opening = q.opening ∙ p.opening;
      bounds = q.bounds ∙ p.bounds;
      more = p.more ++ q.more;
      history = q.history ∙ (ap (λ (h : List Accepted). h ++ q.more) p.history ∙ append_assoc t.history p.more q.more);
      legal = legal-append t.bounds (length t.history) (store_of t) p.more q.more p.legal (subst (λ (s : Store).
          LegalFrom t.bounds (length t.history + length p.more) s q.more) store (subst (λ (n : ℕ). LegalFrom
          t.bounds n (store_of u) q.more) size (subst (λ (b : Bounds). LegalFrom b (length u.history) (store_of u)
          q.more) p.bounds q.legal)));
      marks = later_on t.marks u.marks v.marks p.marks q.marks;
    }

-- ---- acts

stays : (t u : PlainTrader) → u ≡ t → ActsOnce t u
stays t u e =
    subst (ActsOnce t) (sym e) (record {
      follows = follows-itself t;
      once = omega arith;
      marks = refl;
    })

left : (t : PlainTrader) (c : Change) (o : Outcome) → (applied_after t.bounds t.opening t.history c).outcome ≡ o →
    ActsOnce t (after_outcome t c o)
left t c (Done content) e = record {
  follows = record {
    name = refl;
    opening = refl;
    bounds = refl;
    more = entry c content ∷ [];
    history = refl;
    legal = legal-one t.bounds t.opening t.history c content e;
    marks = later_itself t.marks;
  };
  once = rw length-append (omega arith);
  marks = refl;
}
left t c (User f) e = stays t t refl
left t c (System kind minor completion) e = stays t t refl

pub change-once : (t u : PlainTrader) (c : Change) (r : Result Outcome Memory) → ActsChange t c r u → ActsOnce t u
change-once t u c (Ok o) h = subst (ActsOnce t) (sym h.1) (left t c (outcome_of t c) refl)
change-once t u c (Err e) h = stays t u h

pub look-once : (t u : PlainTrader) (l : Look) (r : Result (Outcome × ℕ) Memory) → ActsLook t l r u → ActsOnce t u
look-once t u l (Ok a) h = stays t u h.1
look-once t u l (Err e) h = stays t u h

with-marks : (t : PlainTrader) (m : Marks) → MarksOnce t.marks m → BeginsOnce t (record t { marks = m })
with-marks t m once = record {
  follows = record {
    name = refl;
    opening = refl;
    bounds = refl;
    more = [];
    history = sym (append-nil t.history);
    legal = legal-none t.bounds (length t.history) (store_of t);
    marks = later-once t.marks m once;
  };
  history = refl;
  once = once;
}

begun : (t : PlainTrader) (q : Query) → AreBounds t.bounds → AreMarks t.marks →
    BeginsOnce t (after_begin t q (begin_at t q))
begun t q b k =
    with-marks t (after_begin t q (begin_at t q)).marks (marked-once t.bounds (store_of t) (length t.history) t.marks q
    b.begins k)

pub begin-once : (t u : PlainTrader) (q : Query) (r : Result Begin Memory) → AreBounds t.bounds → AreMarks t.marks →
    ActsBegin t q r u → BeginsOnce t u
begin-once t u q (Ok b) bounds marks h =
    subst (BeginsOnce t) (sym (h.1 ∙ ap (after_begin t q) h.0)) (begun t q bounds marks)
begin-once t u q (Err e) bounds marks h = subst (BeginsOnce t) (sym h) (with-marks t t.marks (inl refl))

-- ---- changes that can be written

admitted-append : (xs ys : List Accepted) → AreAdmitted xs → AreAdmitted ys → AreAdmitted (xs ++ ys)
admitted-append [] ys p q = q
admitted-append (x ∷ xs) ys p q = (p.0, admitted-append xs ys p.1 q)

pub writable-itself : (t : PlainTrader) → FollowsWritably t t
unfolding follows-itself
writable-itself t = record { follows = follows-itself t; admitted = tt }

pub writable-on : (t u v : PlainTrader) → FollowsWritably t u → FollowsWritably u v → FollowsWritably t v
unfolding follows-on
writable-on t u v p q = record {
  follows = follows-on t u v p.follows q.follows;
  admitted = admitted-append p.follows.more q.follows.more p.admitted q.admitted;
}

-- nothing was added
none-more : (h more : List Accepted) → h ≡ h ++ more → more ≡ []
none-more h more e = no-length more (let n = ap length e ∙ length-append h more in omega (arith, n))
  where
    no-length : (xs : List Accepted) → length xs ≡ 0 → xs ≡ []
    no-length [] e = refl
    no-length (x ∷ xs) e = absurd (omega (arith, e))

pub writable-same : (t u : PlainTrader) → Follows t u → u.history ≡ t.history → FollowsWritably t u
writable-same t u f same = record {
  follows = f;
  admitted = subst AreAdmitted (sym (none-more t.history f.more (sym same ∙ f.history))) tt;
}

left-writable : (t : PlainTrader) (c : Change) (o : Outcome)
    → (applied_after t.bounds t.opening t.history c).outcome ≡ o → AdmitsChange c
    → FollowsWritably t (after_outcome t c o)
unfolding left
left-writable t c (Done content) e h = record { follows = (left t c (Done content) e).follows; admitted = (h, tt) }
left-writable t c (User f) e h = writable-itself t
left-writable t c (System kind minor completion) e h = writable-itself t

pub change-writable : (t u : PlainTrader) (c : Change) (r : Result Outcome Memory) → AdmitsChange c
    → ActsChange t c r u → FollowsWritably t u
change-writable t u c (Ok o) a h = subst (FollowsWritably t) (sym h.1) (left-writable t c (outcome_of t c) refl a)
change-writable t u c (Err e) a h = subst (FollowsWritably t) (sym h) (writable-itself t)

pub look-writable : (t u : PlainTrader) (l : Look) (r : Result (Outcome × ℕ) Memory) → ActsLook t l r u
    → FollowsWritably t u
look-writable t u l (Ok a) h = subst (FollowsWritably t) (sym h.1) (writable-itself t)
look-writable t u l (Err e) h = subst (FollowsWritably t) (sym h) (writable-itself t)

pub begin-writable : (t u : PlainTrader) (q : Query) (r : Result Begin Memory) → AreBounds t.bounds → AreMarks t.marks
    → ActsBegin t q r u → FollowsWritably t u
begin-writable t u q r bounds marks h =
    let is = begin-once t u q r bounds marks h in writable-same t u is.follows is.history

-- ---- what is recorded

history-noted : (t : PlainTrader) (c : Change) (o : Outcome) → (after_outcome t c o).history ≡ add_accepted t.history c o
history-noted t c (Done content) = refl
history-noted t c (User f) = refl
history-noted t c (System kind minor completion) = refl

opening-same : (t : PlainTrader) (c : Change) (o : Outcome) → (after_outcome t c o).opening ≡ t.opening
opening-same t c (Done content) = refl
opening-same t c (User f) = refl
opening-same t c (System kind minor completion) = refl

refused-same : (t : PlainTrader) (c : Change) (o : Outcome) → is_done o ≡ false → after_outcome t c o ≡ t
refused-same t c (Done content) e = absurd cc
refused-same t c (User f) e = refl
refused-same t c (System kind minor completion) e = refl

pub refused-leaves : (t : PlainTrader) (c : Change) → is_done (outcome_of t c) ≡ false → after_change t c ≡ t
refused-leaves t c e = refused-same t c (outcome_of t c) e

module _ (t : PlainTrader) (c : Change) (l : Legal t.bounds t.opening t.history) where
  extends : ExtendsLegally t.bounds t.opening t.history c (applied_after t.bounds t.opening t.history c) (add_accepted t.history c
      (outcome_of t c))
  extends = extended t.bounds t.opening t.history c l

  noted-is : (after_change t c).history ≡ add_accepted t.history c (outcome_of t c)
  noted-is = history-noted t c (outcome_of t c)

  pub stands-there : (content : Reply) → outcome_of t c ≡ Done content →
      StandsAt (after_change t c).history (length t.history) c content
  stands-there content e =
      subst (λ (h : List Accepted). StandsAt h (length t.history) c content) (sym noted-is) (extends.stands content e)

  pub legal-there : Legal t.bounds t.opening (after_change t c).history
  legal-there = subst (Legal t.bounds t.opening) (sym noted-is) extends.legal

  pub store-there : store_of (after_change t c) ≡ (applied_after t.bounds t.opening t.history c).store
  store-there =
      ap (λ (s : Store). after_all s (after_change t c).history) (opening-same t c (outcome_of t c))
      ∙ (ap (after_all t.opening) noted-is ∙ extends.store)
