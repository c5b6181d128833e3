-- The calls of a group that one session has alone.
use Rattle.std.proofs.Common.{◌≡◌, ℕ, ◌+◌, ◌<◌, List, [], ◌∷◌, ◌++◌, map, slice_index_or, option_map, length}
use Rattle.std.proofs.Common.{slice_get, slice_set, Some, refl, sym, ◌∙◌, ap, subst, arith, append-nil, IfOk, OnOk}
use Rattle.std.proofs.Common.{OnErr, suc, Bool, true, false, cond, nat_lt, ltb-true, ltb-false}
use Rattle.std.proofs.Common.{zero-add}
use Rattle.std.proofs.lemmas.Option.{slice_get_read, slice_get-map}
use Rattle.std.proofs.lemmas.List.{map-set, set-get_or, length-map}
use Rattle.std.proofs.Math.Seq.{map-set_same}
use Rattle.std.specs.List.{IsDistinct}
use Rattle.std.specs.Prelude.{Result, Ok, Err}
use Rattle.std.specs.Str.{bytes_eq}
use Rattle.td_cdr.specs.Marks.{Marks}
use Rattle.td_cdr.specs.declared.memory.Memory.{Memory}
use Rattle.td_ops.specs.declared.call.Change.{Change}
use Rattle.td_ops.specs.declared.call.Look.{Look}
use Rattle.td_ops.specs.declared.call.Query.{Query}
use Rattle.td_ops.specs.declared.outcome.Outcome.{Outcome}
use Rattle.td_ops.specs.declared.outcome.Outcome.TheVariants.{Done, User, System}
use Rattle.td_changes.specs.Applying.{seek}
use Rattle.td_trader.specs.Beginning.{after_begin}
use Rattle.td_changes.specs.Histories.{Legal, LegalFrom}
use Rattle.td_register.specs.Entries.{entry}
use Rattle.td_trader.specs.OfferLimits.{HasLimitedOffers}
use Rattle.td_trader.specs.PlainTraders.{HasShortReplies, PlainTrader, after_change, after_outcome, begin_at}
use Rattle.td_trader.specs.PlainTraders.{outcome_of, store_of}
use Rattle.td_trader.specs.PlainTraders.{after_begin as trader_after}
use Rattle.td_trader.specs.Solos.{AreDistinct, no_changes, places, solo_view, same_marks, up_to}
use Rattle.td_register.specs.Stores.{Store}
use Rattle.td_trader.specs.Worlds.{AdmittedAt, AdmittedIn, BeginsQuery, number_between, after_begin as seen_after}
use Rattle.td_trader.specs.Worlds.{ChangesTrader, LegalAt, LegalIn, LooksAtTrader, Meanwhile, View, Watches, after_own}
use Rattle.td_trader.specs.Worlds.{history_at}
use Rattle.td_trader.specs.Worlds.{history_in, name_at, name_in, with_view}
use Rattle.td_trader.specs.declared.begin.Begin.{Begin}
use Rattle.td_trader.specs.declared.begin.Begin.TheVariants.{Refused, Repeat, Search, Path}
use Rattle.td_changes.specs.declared.bounds.Bounds.{Bounds}
use Rattle.td_register.specs.declared.history.Accepted.{Accepted}

places-snoc : (k : ℕ) (h : List Accepted) (e : Accepted) → places k (h ++ e ∷ []) ≡ places k h ++ (k + length h) ∷ []
places-snoc k [] e = ap (λ n. n ∷ []) (omega arith)
places-snoc k (x ∷ h) e =
    rw (places-snoc (k + 1) h e) (ap (λ n. k ∷ (places (k + 1) h ++ n ∷ [])) (omega arith))

legal-none : (b : Bounds) (n : ℕ) (s : Store) → LegalFrom b n s []
unfolding LegalFrom
legal-none b n s = tt

own-view : (t : PlainTrader) (c : Change) (o : Outcome) → solo_view (after_outcome t c o) ≡ after_own (solo_view t) c o
own-view t c (Done content) =
    ap (λ (ps : List ℕ). record (solo_view t) { history = t.history ++ entry c content ∷ []; own = ps })
    (places-snoc 0 t.history (entry c content) ∙ ap (λ n. places 0 t.history ++ n ∷ []) (zero-add (length t.history)))
own-view t c (User e) = refl
own-view t c (System kind minor completion) = refl

same-name : (t : PlainTrader) (c : Change) (o : Outcome) → (after_outcome t c o).name ≡ t.name
same-name t c (Done content) = refl
same-name t c (User e) = refl
same-name t c (System kind minor completion) = refl

-- the marks are one's own with the one that was made, if one was
no-mark : (m : Marks) → up_to m.count ≡ up_to m.count ++ number_between m m
no-mark m = from (nat_lt m.count m.count) refl
  where
    from : (b : Bool) → nat_lt m.count m.count ≡ b → up_to m.count ≡ up_to m.count ++ cond b (m.count ∷ []) []
    from true h = absurd (let less = ltb-true m.count m.count h in omega arith)
    from false h = sym (append-nil (up_to m.count))

one-mark : (n : ℕ) (b : Bool) → nat_lt n (n + 1) ≡ b → up_to (n + 1) ≡ up_to n ++ cond b ((n + 1) ∷ []) []
one-mark n true h =
    let next : suc n ≡ n + 1 = omega arith in
    subst (λ (k : ℕ). up_to k ≡ up_to n ++ k ∷ []) next refl
one-mark n false h = absurd (let most = ltb-false n (n + 1) h in omega arith)

counted : (s : Store) (m : Marks) (q : Query) (b : Begin) →
    up_to (after_begin s m q b).count ≡ up_to m.count ++ number_between m (after_begin s m q b)
unfolding after_begin
counted s m q (Refused o) = no-mark m
counted s m q (Repeat number) = no-mark m
counted s m q (Search l) = one-mark m.count (nat_lt m.count (m.count + 1)) refl
counted s m q (Path l) = no-mark m

marks-seen : (t : PlainTrader) (m : Marks) → up_to m.count ≡ up_to t.marks.count ++ number_between t.marks m →
    solo_view (record t { marks = m }) ≡ seen_after (solo_view t) m
marks-seen t m e = ap (λ (own : List ℕ). record (solo_view t) { marks = m; own_marks = own }) e

begun-view : (t : PlainTrader) (q : Query) (b : Begin) →
    solo_view (trader_after t q b) ≡ seen_after (solo_view t) (after_begin (store_of t) t.marks q b)
begun-view t q b = marks-seen t (after_begin (store_of t) t.marks q b) (counted (store_of t) t.marks q b)

names-seen : (ts : List PlainTrader) → map (λ (v : View). v.name) (map solo_view ts) ≡ map (λ (t : PlainTrader).
    t.name) ts
names-seen [] = refl
names-seen (t ∷ ts) = ap (λ (names : List (List ℕ)). t.name ∷ names) (names-seen ts)

pub distinct-seen : (ts : List PlainTrader) → AreDistinct ts → IsDistinct bytes_eq (map (λ (v : View). v.name) (map
    solo_view ts))
distinct-seen ts d = subst (IsDistinct bytes_eq) (sym (names-seen ts)) d

pub name-kept : (t u : PlainTrader) (c : Change) (r : Result Outcome Memory) → OnOk r (u ≡ after_change t c) →
    OnErr r (u ≡ t) → u.name ≡ t.name
name-kept t u c (Ok o) done failed = ap (λ (x : PlainTrader). x.name) done ∙ same-name t c (outcome_of t c)
name-kept t u c (Err e) done failed = ap (λ (x : PlainTrader). x.name) failed

pub name-begun : (t u : PlainTrader) (q : Query) (r : Result Begin Memory) → IfOk r (λ b. u ≡ trader_after t q b) →
    OnErr r (u ≡ t) → u.name ≡ t.name
name-begun t u q (Ok b) done failed = ap (λ (x : PlainTrader). x.name) done
name-begun t u q (Err e) done failed = ap (λ (x : PlainTrader). x.name) failed

module _ (ts : List PlainTrader) (k : ℕ) (t : PlainTrader) (inside : k < length (map solo_view ts)) (is : t ≡
    slice_index_or ts k t) where
  pub view-at : slice_get (map solo_view ts) k ≡ Some (solo_view t)
  view-at =
      slice_get-map solo_view ts k ∙ ap (option_map solo_view) (slice_get_read ts (length ts) k t refl (rw
      length-map at inside) is)

  set_same : slice_set ts k t ≡ ts
  set_same = subst (λ (x : PlainTrader). slice_set ts k x ≡ ts) (sym is) (set-get_or ts k t)

  world-same : map solo_view (slice_set ts k t) ≡ with_view (map solo_view ts) k (solo_view t)
  world-same = map-set solo_view ts k t

  quiet : Meanwhile no_changes same_marks (map solo_view ts) k (solo_view t)
  quiet = record {
    view = solo_view t;
    between = [];
    marks = t.marks;
    is = view-at;
    may = refl;
    legal = legal-none t.bounds (length t.history) (store_of t);
    may_mark = refl;
    seen_is = ap (λ (h : List Accepted). record (solo_view t) { history = h }) (sym (append-nil t.history));
  }

  pub distinct : (u : PlainTrader) → u.name ≡ t.name → AreDistinct ts → AreDistinct (slice_set ts k u)
  distinct u same d =
      subst (IsDistinct bytes_eq) (sym (map-set_same (λ (x : PlainTrader). x.name) ts k u t (same ∙ ap (λ (x :
      PlainTrader). x.name) is))) d

  pub changes : (u : PlainTrader) (c : Change) (r : Result Outcome Memory) → IfOk r (λ o. o ≡ outcome_of t c) →
      OnOk r (u ≡ after_change t c) →
      IfOk r (λ o. ChangesTrader no_changes same_marks (map solo_view ts) k c o (map solo_view (slice_set ts k u)))
  changes u c (Ok o) out is_after = record {
    seen = solo_view t;
    meanwhile = quiet;
    outcome = out;
    world = map-set solo_view ts k u ∙ ap (slice_set (map solo_view ts) k) (ap solo_view is_after ∙ own-view t c
        (outcome_of t c) ∙ ap (after_own (solo_view t) c) (sym out));
  }
  changes u c (Err e) out is_after = tt

  pub begins : (u : PlainTrader) (q : Query) (r : Result Begin Memory) → IfOk r (λ b. b ≡ begin_at t q) →
      HasLimitedOffers (store_of t) → IfOk r (λ b. u ≡ trader_after t q b) →
      IfOk r (λ b. BeginsQuery no_changes same_marks (map solo_view ts) k q b (map solo_view (slice_set ts k u)))
  begins u q (Ok b) is_begin limited is_after = record {
    seen = solo_view t;
    meanwhile = quiet;
    begin = is_begin;
    limited = limited;
    world = map-set solo_view ts k u ∙ ap (slice_set (map solo_view ts) k) (ap solo_view is_after ∙ begun-view t q b);
  }
  begins u q (Err e) is_begin limited is_after = tt

  pub watches : {X : Type 0} (u : PlainTrader) (r : Result X Memory) → OnErr r (u ≡ t) →
      OnErr r (Watches no_changes same_marks (map solo_view ts) k (map solo_view (slice_set ts k u)))
  watches u (Ok x) same = tt
  watches u (Err e) same = record {
    seen = solo_view t;
    meanwhile = quiet;
    world = map-set solo_view ts k u ∙ ap (λ (x : PlainTrader). slice_set (map solo_view ts) k (solo_view x)) same;
  }

  world-kept : map solo_view ts ≡ with_view (map solo_view ts) k (solo_view t)
  world-kept = ap (map solo_view) (sym set_same) ∙ world-same

  pub looks : (l : Look) (r : Result (Outcome × ℕ) Memory) → IfOk r (λ a. a ≡ seek (store_of t) l) →
      IfOk r (λ a. LooksAtTrader no_changes same_marks (map solo_view ts) k l a (map solo_view ts))
  looks l (Ok a) h = record { seen = solo_view t; meanwhile = quiet; answer = h; world = world-kept }
  looks l (Err e) h = tt

  pub unseen : {X : Type 0} (r : Result X Memory) → OnErr r (Watches no_changes same_marks (map solo_view ts) k (map
      solo_view ts))
  unseen (Ok x) = tt
  unseen (Err e) = record { seen = solo_view t; meanwhile = quiet; world = world-kept }

  pub name-seen : name_at (map solo_view ts) k ≡ t.name
  name-seen = ap name_in view-at

  pub history-seen : history_at (map solo_view ts) k ≡ t.history
  history-seen = ap history_in view-at

  pub legal-at : Legal t.bounds t.opening t.history → LegalAt (map solo_view ts) k
  legal-at h = subst LegalIn (sym view-at) h

  pub admitted-at : HasShortReplies t.opening → AdmittedAt (map solo_view ts) k
  admitted-at h = subst AdmittedIn (sym view-at) h
