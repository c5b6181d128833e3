-- Under which numbers traders remember one identifier as the items of a trace come one after the other, and what a
-- trace shows then.
use Rattle.std.proofs.Common.{◌≡◌, ℕ, ◌⊎◌, inl, inr, Bool, true, false, cond, nat_eq, true≢false}
use Rattle.std.proofs.Common.{List, [], ◌∷◌, ◌++◌, Option, Some, None, refl, sym, ap, subst, ◌∙◌, eq-eqb, eqb-true}
use Rattle.td_cdr.specs.Marks.{In}
use Rattle.td_fed_laws.specs.Traces.{HasSearch, IsSearchedInTrace}
use Rattle.td_fed_laws.specs.WalkLaws.{NamesSearches, RepeatsExactly, SearchesOnce}
use Rattle.td_walk.specs.declared.trace.TraceItem.{TraceItem}
use Rattle.td_walk.specs.declared.trace.TraceItem.TheVariants as item

none-some : (n : ℕ) → ◌≡◌ {A = Option ℕ} None (Some n) → ⊥
none-some n e = cc

-- ---- what is remembered

-- the trader remembers it under this mark, and the others as before
abbrev pub noted : (ℕ → Option ℕ) → (trader mark k : ℕ) → Option ℕ
noted f trader mark k = cond (nat_eq trader k) (Some mark) (f k)

abbrev pub after_item : (ℕ → Option ℕ) → TraceItem → ℕ → Option ℕ
after_item f (item.Search trader point mark) = noted f trader mark
after_item f other = f

abbrev pub after : (ℕ → Option ℕ) → List TraceItem → ℕ → Option ℕ
after f [] = f
after f (i ∷ is) = after (after_item f i) is

-- a search is of a trader that doesn't remember it, and a repeat of one that does, under this mark
abbrev pub IsFit : (ℕ → Option ℕ) → TraceItem → Type 0
IsFit f (item.Search trader point mark) = f trader ≡ None
IsFit f (item.Repeat trader point mark) = f trader ≡ Some mark
IsFit f other = Unit {0}

abbrev pub IsRight : (ℕ → Option ℕ) → List TraceItem → Type 0
IsRight f [] = Unit {0}
IsRight f (i ∷ is) = IsFit f i × IsRight (after_item f i) is

-- ---- one after the other

pub right-append : (t ts : List TraceItem) (f : ℕ → Option ℕ) → IsRight f t → IsRight (after f t) ts
    → IsRight f (t ++ ts)
right-append [] ts f a b = b
right-append (i ∷ t) ts f a b = (a.0, right-append t ts (after_item f i) a.1 b)

pub after-append : (t ts : List TraceItem) (f : ℕ → Option ℕ) → after f (t ++ ts) ≡ after (after f t) ts
after-append [] ts f = refl
after-append (i ∷ t) ts f = after-append t ts (after_item f i)

-- the items are right, and this is remembered behind them
pub record Goes (f : ℕ → Option ℕ) (t : List TraceItem) (g : ℕ → Option ℕ) : Type 0 where
  pub right : IsRight f t
  pub after_is : g ≡ after f t

pub goes-on : (f g h : ℕ → Option ℕ) (t ts : List TraceItem) → Goes f t g → Goes g ts h → Goes f (t ++ ts) h
goes-on f g h t ts p q = record {
  right = right-append t ts f p.right (subst (λ (x : ℕ → Option ℕ). IsRight x ts) p.after_is q.right);
  after_is = q.after_is ∙ (ap (λ (x : ℕ → Option ℕ). after x ts) p.after_is ∙ sym (after-append t ts f));
}

pub goes-first : (f g h : ℕ → Option ℕ) (i : TraceItem) (t : List TraceItem) → IsFit f i → g ≡ after_item f i
    → Goes g t h → Goes f (i ∷ t) h
goes-first f g h i t fit is p = record {
  right = (fit, subst (λ (x : ℕ → Option ℕ). IsRight x t) is p.right);
  after_is = p.after_is ∙ ap (λ (x : ℕ → Option ℕ). after x t) is;
}

-- the visit ends
pub goes-left : (f g : ℕ → Option ℕ) (t : List TraceItem) → Goes f t g → Goes f (t ++ item.Leave ∷ []) g
goes-left f g t p = goes-on f g g t (item.Leave ∷ []) p (record { right = (tt, tt); after_is = refl })

-- ---- at an item

right-at : (before rest : List TraceItem) (i : TraceItem) (f : ℕ → Option ℕ) → IsRight f (before ++ i ∷ rest)
    → IsFit (after f before) i
right-at [] rest i f h = h.0
right-at (x ∷ before) rest i f h = right-at before rest i (after_item f x) h.1

-- what is remembered stays
abbrev IsNoted : Option ℕ → Type 0
IsNoted o = (m : ℕ) × (o ≡ Some m)

put-stays : (b : Bool) (mark : ℕ) (o : Option ℕ) → IsNoted o → IsNoted (cond b (Some mark) o)
put-stays true mark o h = (mark, refl)
put-stays false mark o h = h

item-stays : (i : TraceItem) (f : ℕ → Option ℕ) (k : ℕ) → IsNoted (f k) → IsNoted (after_item f i k)
item-stays (item.Search trader point mark) f k h = put-stays (nat_eq trader k) mark (f k) h
item-stays other f k h = h

some-stays : (t : List TraceItem) (f : ℕ → Option ℕ) (k : ℕ) → IsNoted (f k) → IsNoted (after f t k)
some-stays [] f k h = h
some-stays (i ∷ t) f k h = some-stays t (after_item f i) k (item-stays i f k h)

item-noted : (i : TraceItem) (f : ℕ → Option ℕ) (k point mark : ℕ) → item.Search k point mark ≡ i
    → after_item f i k ≡ Some mark
item-noted i f k point mark e =
    subst (λ (x : TraceItem). after_item f x k ≡ Some mark) e
    (ap (λ (b : Bool). cond b (Some mark) (f k)) (eq-eqb k k refl))

-- what was searched is remembered
in-noted : (t : List TraceItem) (f : ℕ → Option ℕ) (k point mark : ℕ) → In (item.Search k point mark) t
    → IsNoted (after f t k)
in-noted [] f k point mark h = elim h [ ]
in-noted (i ∷ t) f k point mark (inl e) = some-stays t (after_item f i) k (mark, item-noted i f k point mark e)
in-noted (i ∷ t) f k point mark (inr h) = in-noted t (after_item f i) k point mark h

item-origin : (i : TraceItem) (t : List TraceItem) (f : ℕ → Option ℕ) (k n : ℕ) → after_item f i k ≡ Some n
    → (f k ≡ Some n) ⊎ HasSearch (i ∷ t) k n
item-origin (item.Search trader point mark) t f k n e = by-trader (nat_eq trader k) refl e
  where
    by-trader : (b : Bool) → nat_eq trader k ≡ b → cond b (Some mark) (f k) ≡ Some n
        → (f k ≡ Some n) ⊎ HasSearch (item.Search trader point mark ∷ t) k n
    by-trader true is here =
        let one : k ≡ trader = sym (eqb-true trader k is) in
        let two : n ≡ mark = cc in
        inr (record {
          point = point;
          there =
              inl (ap (λ (x : ℕ). item.Search x point n) one ∙ ap (λ (x : ℕ). item.Search trader point x) two);
        })
    by-trader false is here = inl here
item-origin other t f k n e = inl e

-- what is remembered was remembered before, or was searched
origin : (t : List TraceItem) (f : ℕ → Option ℕ) (k n : ℕ) → after f t k ≡ Some n
    → (f k ≡ Some n) ⊎ HasSearch t k n
origin [] f k n e = inl e
origin (i ∷ t) f k n e = by-rest (origin t (after_item f i) k n e)
  where
    by-rest : (after_item f i k ≡ Some n) ⊎ HasSearch t k n → (f k ≡ Some n) ⊎ HasSearch (i ∷ t) k n
    by-rest (inl here) = item-origin i t f k n here
    by-rest (inr s) = inr (record { point = s.point; there = inr s.there })

-- ---- the laws

-- right from where no trader remembers it
pub record IsRightFromNone (t : List TraceItem) : Type 0 where
  pub notes : ℕ → Option ℕ
  pub none : (k : ℕ) → notes k ≡ None
  pub right : IsRight notes t

pub searched-once : (t : List TraceItem) → IsRightFromNone t → SearchesOnce t
searched-once t h before rest trader point mark is s =
    let fit : after h.notes before trader ≡ None =
    right-at before rest (item.Search trader point mark) h.notes (subst (IsRight h.notes) is h.right) in
    let some : IsNoted (after h.notes before trader) =
    in-noted before h.notes trader s.search.point s.mark s.search.there in
    none-some some.0 (sym fit ∙ some.1)

pub named-search : (t : List TraceItem) → IsRightFromNone t → NamesSearches t
named-search t h before rest trader point mark is =
    let fit : after h.notes before trader ≡ Some mark =
    right-at before rest (item.Repeat trader point mark) h.notes (subst (IsRight h.notes) is h.right) in
    by-origin (origin before h.notes trader mark fit)
  where
    by-origin : (h.notes trader ≡ Some mark) ⊎ HasSearch before trader mark → HasSearch before trader mark
    by-origin (inl e) = absurd (none-some mark (sym (h.none trader) ∙ e))
    by-origin (inr s) = s

pub repeats-exactly-by : (t : List TraceItem) → SearchesOnce t → NamesSearches t → RepeatsExactly t
repeats-exactly-by t once names before rest (item.Search k point mark) trader is at =
    let same : trader ≡ k = cc in (
      λ e. absurd (true≢false (sym e)),
      λ s. absurd (once before rest k point mark is (subst (IsSearchedInTrace before) same s)),
    )
repeats-exactly-by t once names before rest (item.Repeat k point mark) trader is at =
    let same : k ≡ trader = cc in (
      λ e. subst (IsSearchedInTrace before) same (record { mark = mark; search = names before rest k point mark is }),
      λ s. refl,
    )
repeats-exactly-by t once names before rest other trader is at = absurd (none-some trader at)

pub repeats-exactly : (t : List TraceItem) → IsRightFromNone t → RepeatsExactly t
repeats-exactly t h = repeats-exactly-by t (searched-once t h) (named-search t h)
