-- A store that is called stays the one behind its history.
use Rattle.std.proofs.Common.{◌≡◌, ℕ, suc, ◌+◌, Bool, true, false, cond, List, [], ◌∷◌, ◌++◌, length, not}
use Rattle.std.proofs.Common.{refl, ap, sym, ◌∙◌, arith, subst, Result, Ok, Err}
use Rattle.std.proofs.lemmas.List.{append-nil}
use Rattle.std.specs.Prelude.{IfOk, OnErr}
use Rattle.td_names.specs.Applying.{apply_act}
use Rattle.td_names.specs.Changing.{is_change}
use Rattle.td_names.specs.Refusing.{is_refusal}
use Rattle.td_names.specs.Stores.{Store, start}
use Rattle.td_names.specs.declared.act.NameAct.{NameAct}
use Rattle.td_names.specs.declared.act.NameAnswer.{NameAnswer}
use Rattle.td_names.specs.declared.address.Address.{Address}
use Rattle.td_naming.proofs.Accepting.{accepted_there, after_more, home_there, kept_there, legal_more}
use Rattle.td_naming.specs.Alone.{no_changes, places, solo_view}
use Rattle.td_naming.specs.Histories.{IsAccepted, Legal, Records, Remembers, after_change, change_at}
use Rattle.td_naming.specs.Histories.{Past, is_accepted, add_accepted, past, store_after}
use Rattle.td_naming.specs.Views.{NamingActs, Meanwhile, View, with_own}
use Rattle.td_naming.specs.declared.history.NameChange.{NameChange}

one_more : (k : ℕ) (h : List NameChange) (e : NameChange)
    → places k (h ++ e ∷ []) ≡ places k h ++ (k + length h) ∷ []
one_more k [] e = ap (λ (n : ℕ). n ∷ []) (let is : k ≡ k + 0 = omega arith in is)
one_more k (x ∷ xs) e =
    ap (λ (ys : List ℕ). k ∷ ys)
    (one_more (k + 1) xs e
    ∙ ap (λ (n : ℕ). places (k + 1) xs ++ n ∷ [])
    (let is : k + 1 + length xs ≡ k + suc (length xs) = omega arith in is))

pub unchanged : (v : View) → Meanwhile no_changes v v
unchanged v = record {
  between = [];
  may = refl;
  legal = tt;
  is =
      ap (λ (h : List NameChange). let u : View = record { home = v.home; history = h; own = v.own } in u)
      (sym (append-nil v.history));
}

-- ---- by what the call is: an accepted change, or not

module _ (s : Store) (h : List NameChange) (c : ℕ) (a : NameAct) (m : Remembers s h) where
  abbrev t : Store
  t = (apply_act s c a).0

  abbrev r : NameAnswer
  r = (apply_act s c a).1

  abbrev e : NameChange
  e = change_at s c a

  legal_on : is_accepted a r ≡ true → Legal s.home (h ++ e ∷ [])
  legal_on flag =
      legal_more (start s.home) h (e ∷ []) m.legal
      (subst (λ (x : Store). IsAccepted x e) m.store (accepted_there s c a flag), tt)

  store_on : t ≡ store_after s.home (h ++ e ∷ [])
  store_on = ap (λ (x : Store). after_change x e) m.store ∙ sym (after_more (start s.home) h (e ∷ []))

  kept_by : (flag : Bool) → is_accepted a r ≡ flag → Remembers t (cond flag (h ++ e ∷ []) h)
  kept_by true flag = record {
    legal = subst (λ (x : Address). Legal x (h ++ e ∷ [])) (sym (home_there s c a)) (legal_on flag);
    store = store_on ∙ ap (λ (x : Address). store_after x (h ++ e ∷ [])) (sym (home_there s c a));
  }
  kept_by false flag = subst (λ (x : Store). Remembers x h) (sym (kept_there s c a flag)) m

  pub kept : Remembers t (add_accepted h s c a r)
  kept = kept_by (is_accepted a r) refl

  -- ---- to one who alone calls it

  abbrev before : View
  before = solo_view (past s.home h)

  -- the change as it is remembered is the one at the store behind the history
  same_change : change_at (store_after s.home h) c a ≡ e
  same_change = ap (λ (x : Store). change_at x c a) (sym m.store)

  own_places : (x : NameChange) → x ≡ e → solo_view (past s.home (h ++ e ∷ [])) ≡ with_own before x
  own_places x is =
      let places_are : places 0 (h ++ e ∷ []) ≡ places 0 h ++ length h ∷ [] =
      one_more 0 h e
      ∙ ap (λ (n : ℕ). places 0 h ++ n ∷ []) (let same : 0 + length h ≡ length h = omega arith in same) in
      rw (is, places_are) refl

  after_by : (flag : Bool)
      → solo_view (past s.home (cond flag (h ++ e ∷ []) h))
      ≡ cond flag (with_own before (change_at (store_after s.home h) c a)) before
  after_by true = own_places (change_at (store_after s.home h) c a) same_change
  after_by false = refl

  pub acts : NamingActs no_changes before c a r (solo_view (past t.home (add_accepted h s c a r)))
  acts = record {
    seen = before;
    meanwhile = unchanged before;
    answer = ap (λ (x : Store). (apply_act x c a).1) m.store;
    after =
        ap (λ (x : Address). solo_view (past x (add_accepted h s c a r))) (home_there s c a)
        ∙ after_by (is_accepted a r);
  }

-- ---- of a call of the store that was recorded

pub recorded_kept : (s t : Store) (h k : List NameChange) (c : ℕ) (a : NameAct) (r : NameAnswer) → Remembers s h
    → Records s h c a r t k → Remembers t k
recorded_kept s t h k c a r m x =
    let first : t ≡ (apply_act s c a).0 = ap (λ (p : Store × NameAnswer). p.0) x.applied in
    let second : r ≡ (apply_act s c a).1 = ap (λ (p : Store × NameAnswer). p.1) x.applied in
    rw (x.noted, first, second) (kept s h c a m)

pub recorded_acts : (s t : Store) (h k : List NameChange) (c : ℕ) (a : NameAct) (r : NameAnswer) → Remembers s h
    → Records s h c a r t k → NamingActs no_changes (solo_view (past s.home h)) c a r (solo_view (past t.home k))
recorded_acts s t h k c a r m x =
    let first : t ≡ (apply_act s c a).0 = ap (λ (p : Store × NameAnswer). p.0) x.applied in
    let second : r ≡ (apply_act s c a).1 = ap (λ (p : Store × NameAnswer). p.1) x.applied in
    rw (x.noted, first, second) (acts s h c a m)

-- a call that is no change is recorded by nothing
pub recorded_look : (s t : Store) (h : List NameChange) (c : ℕ) (a : NameAct) (r : NameAnswer) → is_change a ≡ false
    → (t, r) ≡ apply_act s c a → Records s h c a r t h
recorded_look s t h c a r is x = record { applied = x; noted = rw is refl }

-- a change is recorded behind the others where it was done
pub recorded_change : (s t : Store) (h k : List NameChange) (c : ℕ) (a : NameAct) (r : NameAnswer) (done : Bool)
    → is_change a ≡ true → (t, r) ≡ apply_act s c a → done ≡ not (is_refusal r)
    → k ≡ cond done (h ++ change_at s c a ∷ []) h → Records s h c a r t k
recorded_change s t h k c a r done change x is behind =
    let same : is_accepted a r ≡ done = rw (change, is) refl in
    record {
      applied = x;
      noted = behind ∙ ap (λ (b : Bool). cond b (h ++ change_at s c a ∷ []) h) (sym same);
    }

-- the entry that was pushed, once room was taken
pub pushed : (h room k : List NameChange) (e f : NameChange) → room ≡ h → e ≡ f → k ≡ room ++ e ∷ [] → k ≡ h ++ f ∷ []
pushed h room k e f same entry is = is ∙ rw (same, entry) refl

-- ---- whatever the call's result

module _ {E : Type 0} (s t : Store) (h k : List NameChange) (c : ℕ) (a : NameAct) where
  pub result_kept : (r : Result NameAnswer E) → Remembers s h → IfOk r (λ x. Records s h c a x t k)
      → OnErr r ((t ≡ s) × (k ≡ h)) → Remembers t k
  result_kept (Ok x) m ok err = recorded_kept s t h k c a x m ok
  result_kept (Err e) m ok err = rw (err.0, err.1) m

  pub result_acts : (r : Result NameAnswer E) → Remembers s h → IfOk r (λ x. Records s h c a x t k)
      → IfOk r (λ x. NamingActs no_changes (solo_view (past s.home h)) c a x (solo_view (past t.home k)))
  result_acts (Ok x) m ok = recorded_acts s t h k c a x m ok
  result_acts (Err e) m ok = tt

  pub result_unchanged : (r : Result NameAnswer E) → OnErr r ((t ≡ s) × (k ≡ h))
      → OnErr r (past t.home k ≡ past s.home h)
  result_unchanged (Ok x) err = tt
  result_unchanged (Err e) err = rw (err.0, err.1) refl

  pub result_look : (r : Result NameAnswer E) → is_change a ≡ false → k ≡ h → IfOk r (λ x. (t, x) ≡ apply_act s c a)
      → IfOk r (λ x. Records s h c a x t k)
  result_look (Ok x) flag same is = rw same (recorded_look s t h c a x flag is)
  result_look (Err e) flag same is = tt

pub meanwhile : {E : Type 0} (p q : Past) (r : Result NameAnswer E) → OnErr r (q ≡ p)
    → OnErr r (Meanwhile no_changes (solo_view p) (solo_view q))
meanwhile p q (Ok x) err = tt
meanwhile p q (Err e) err = rw err (unchanged (solo_view p))
