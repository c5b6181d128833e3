-- What an iterator has given is the front of its list.
use Rattle.std.proofs.Common.{◌≡◌, ℕ, zero, suc, ◌+◌, ◌-◌, ◌==◌, ◌&&◌, Bool, true, false, if◌then◌else◌, List, []}
use Rattle.std.proofs.Common.{◌∷◌, ◌++◌, ◌⊎◌, inl, inr, length, map, fold, drop, take, find, Option, Some, None, cond, refl}
use Rattle.std.proofs.Common.{sym, ap, subst, ◌∙◌, arith, append_assoc}
use Rattle.std.specs.Str.{bytes_eq}
use Rattle.std.proofs.lemmas.Bool.{and_from, both_ways}
use Rattle.std.proofs.lemmas.Slice.Eq.{bytes_eq-Decides}
use Rattle.td_cdr.specs.declared.order.Order.{Order}
use Rattle.td_iter.specs.Desks.{is_called}
use Rattle.td_iter.specs.declared.desk.DeskEntry.{DeskEntry}
use Rattle.td_iter.specs.declared.item.Item.{Item}
use Rattle.td_iter.specs.declared.item.Item.TheVariants.{Offers, Ids}
use Rattle.td_desk.specs.Batching.{count_of, first_of, given_of, left_behind, rest_of}
use Rattle.td_desk.specs.Giving.{AnId, AnOffer, IsFrontOfList, PutOthers, IteratorItem, batch_by, given, given_at}
use Rattle.td_desk.specs.Giving.{is_its, join_lists}
use Rattle.td_desk.specs.Giving.{puts_others, things_of}
use Rattle.td_desk.specs.Standings.{DeskState, after, change_first, empty_desk, put, without}
use Rattle.td_desk.specs.declared.event.Event.{Event}
use Rattle.td_desk.specs.declared.event.Event.TheVariants.{Draw, Add, Left, Next, Destroy}

-- ---- the first k and the rest of an item

parted : {X : Type 0} (f : X → IteratorItem) (k : ℕ) (xs : List X) → map f (take k xs) ++ map f (drop k xs) ≡ map f xs
parted f zero xs = refl
parted f (suc k) [] = refl
parted f (suc k) (x ∷ xs) = ap (λ (ts : List IteratorItem). f x ∷ ts) (parted f k xs)

pub things_parted : (k : ℕ) (item : Item) → things_of (first_of k item) ++ things_of (rest_of k item) ≡ things_of item
things_parted k (Offers xs) = parted AnOffer k xs
things_parted k (Ids xs) = parted AnId k xs

-- ---- entries that are found

abbrev any : Option (DeskEntry Item) → Bool
any None = false
any (Some e) = true

abbrev entry_or : DeskEntry Item → Option (DeskEntry Item) → DeskEntry Item
entry_or e None = e
entry_or e (Some x) = x

some_same : (e x : DeskEntry Item) → Some e ≡ Some x → e ≡ x
some_same e x is = ap (entry_or e) is

-- ---- keys

module _ (a b : List ℕ) (m n : ℕ) where
  and_left : (x y : Bool) → (x && y) ≡ true → x ≡ true
  and_left true y is = refl
  and_left false y is = is

  and_right : (x y : Bool) → (x && y) ≡ true → y ≡ true
  and_right true y is = is
  and_right false y is = absurd (both_ways false refl is)

  pub same_number : ((m == n) && bytes_eq a b) ≡ true → m ≡ n
  same_number is = (let e = and_left (m == n) (bytes_eq a b) is in grind (arith, e))

  pub same_keys : a ≡ b → m ≡ n → ((m == n) && bytes_eq a b) ≡ true
  same_keys is same = and_from (m == n) (bytes_eq a b) (let e : (m == n) ≡ true = grind (arith, same) in e)
      ((bytes_eq-Decides a b).1 is)

  pub same_trader : ((m == n) && bytes_eq a b) ≡ true → a ≡ b
  same_trader is = (bytes_eq-Decides a b).0 (and_right (m == n) (bytes_eq a b) is)

-- ---- the one that is called so, where there is no other

module _ (trader : List ℕ) (number : ℕ) where
  -- none is called so
  abbrev pub Gone : List (DeskEntry Item) → Type 0
  Gone [] = Unit {0}
  Gone (x ∷ xs) = (is_called trader number x ≡ false) × Gone xs

  -- e is the one that is called so
  abbrev pub Lone : DeskEntry Item → List (DeskEntry Item) → Type 0
  Lone e [] = ⊥
  Lone e (x ∷ xs) = ((e ≡ x) × (is_called trader number x ≡ true) × Gone xs)
      ⊎ ((is_called trader number x ≡ false) × Lone e xs)

  find_none : (b : Bool) (x : DeskEntry Item) (r : Option (DeskEntry Item)) → b ≡ false → r ≡ None → cond b (Some x) r ≡ None
  find_none true x r is e = absurd (both_ways true is refl)
  find_none false x r is e = e

  pub find_gone : (es : List (DeskEntry Item)) → Gone es → find (is_called trader number) es ≡ None
  find_gone [] g = refl
  find_gone (x ∷ xs) g = find_none (is_called trader number x) x (find (is_called trader number) xs) g.0
      (find_gone xs g.1)

  find_first : (b : Bool) (x e : DeskEntry Item) (r : Option (DeskEntry Item)) → b ≡ true → e ≡ x → cond b (Some x) r ≡ Some e
  find_first true x e r is same = ap (λ (y : DeskEntry Item). Some y) (sym same)
  find_first false x e r is same = absurd (both_ways false refl is)

  find_later : (b : Bool) (x e : DeskEntry Item) (r : Option (DeskEntry Item)) → b ≡ false → r ≡ Some e
      → cond b (Some x) r ≡ Some e
  find_later true x e r is same = absurd (both_ways true is refl)
  find_later false x e r is same = same

  pub find_lone : (e : DeskEntry Item) (es : List (DeskEntry Item)) → Lone e es → find (is_called trader number) es ≡ Some e
  find_lone e [] h = absurd h
  find_lone e (x ∷ xs) (inl h) = find_first (is_called trader number x) x e (find (is_called trader number) xs) h.1 h.0
  find_lone e (x ∷ xs) (inr h) = find_later (is_called trader number x) x e (find (is_called trader number) xs) h.0
      (find_lone e xs h.1)

  -- ---- one more at the end, and the oldest dropped

  gone_behind : (k : ℕ) (es : List (DeskEntry Item)) → Gone es → Gone (drop k es)
  gone_behind zero es g = g
  gone_behind (suc k) [] g = g
  gone_behind (suc k) (x ∷ xs) g = gone_behind k xs g.1

  gone_more : (es : List (DeskEntry Item)) (y : DeskEntry Item) → Gone es → is_called trader number y ≡ false
      → Gone (es ++ y ∷ [])
  gone_more [] y g other = (other, tt)
  gone_more (x ∷ xs) y g other = (g.0, gone_more xs y g.1 other)

  pub gone_put : (y : DeskEntry Item) (es : List (DeskEntry Item)) → Gone es → is_called trader number y ≡ false
      → Gone (put y es)
  gone_put y es g other = gone_more (drop (length es - 4095) es) y (gone_behind (length es - 4095) es g) other

  lone_behind : (k : ℕ) (e : DeskEntry Item) (es : List (DeskEntry Item)) → Lone e es → Lone e (drop k es) ⊎ Gone (drop k es)
  lone_behind zero e es h = inl h
  lone_behind (suc k) e [] h = absurd h
  lone_behind (suc k) e (x ∷ xs) (inl h) = inr (gone_behind k xs h.2)
  lone_behind (suc k) e (x ∷ xs) (inr h) = lone_behind k e xs h.1

  lone_more : (e : DeskEntry Item) (es : List (DeskEntry Item)) (y : DeskEntry Item) → Lone e es → is_called trader number y ≡ false
      → Lone e (es ++ y ∷ [])
  lone_more e [] y h other = absurd h
  lone_more e (x ∷ xs) y (inl h) other = inl (h.0, h.1, gone_more xs y h.2 other)
  lone_more e (x ∷ xs) y (inr h) other = inr (h.0, lone_more e xs y h.1 other)

  lone_put_by : (e : DeskEntry Item) (es : List (DeskEntry Item)) (y : DeskEntry Item) → Lone e es ⊎ Gone es
      → is_called trader number y ≡ false → Lone e (es ++ y ∷ []) ⊎ Gone (es ++ y ∷ [])
  lone_put_by e es y (inl h) other = inl (lone_more e es y h other)
  lone_put_by e es y (inr g) other = inr (gone_more es y g other)

  pub lone_put : (e y : DeskEntry Item) (es : List (DeskEntry Item)) → Lone e es → is_called trader number y ≡ false
      → Lone e (put y es) ⊎ Gone (put y es)
  lone_put e y es h other = lone_put_by e (drop (length es - 4095) es) y (lone_behind (length es - 4095) e es h) other

  lone_last : (e : DeskEntry Item) (es : List (DeskEntry Item)) → Gone es → is_called trader number e ≡ true
      → Lone e (es ++ e ∷ [])
  lone_last e [] g its = inl (refl, its, tt)
  lone_last e (x ∷ xs) g its = inr (g.0, lone_last e xs g.1 its)

  pub lone_new : (e : DeskEntry Item) (es : List (DeskEntry Item)) → Gone es → is_called trader number e ≡ true
      → Lone e (put e es)
  lone_new e es g its = lone_last e (drop (length es - 4095) es) (gone_behind (length es - 4095) es g) its

  -- ---- one that is called otherwise has less left, or is taken off

  module _ (name : List ℕ) (n : ℕ) (f : Item → Item) where
    gone_changed_by : (b : Bool) (x : DeskEntry Item) (xs new : List (DeskEntry Item)) → is_called trader number x ≡ false
        → Gone xs → Gone new → Gone (if b then record x { item = f x.item } ∷ xs else x ∷ new)
    gone_changed_by true x xs new other g h = (other, g)
    gone_changed_by false x xs new other g h = (other, h)

    pub gone_changed : (es : List (DeskEntry Item)) → Gone es → Gone (change_first name n f es)
    gone_changed [] g = g
    gone_changed (x ∷ xs) g =
        gone_changed_by (is_called name n x) x xs (change_first name n f xs) g.0 g.1 (gone_changed xs g.1)

    gone_without_by : (b : Bool) (x : DeskEntry Item) (xs new : List (DeskEntry Item)) → is_called trader number x ≡ false
        → Gone xs → Gone new → Gone (if b then xs else x ∷ new)
    gone_without_by true x xs new other g h = g
    gone_without_by false x xs new other g h = (other, h)

    pub gone_without : (es : List (DeskEntry Item)) → Gone es → Gone (without name n es)
    gone_without [] g = g
    gone_without (x ∷ xs) g =
        gone_without_by (is_called name n x) x xs (without name n xs) g.0 g.1 (gone_without xs g.1)

    module _ (apart : (x : DeskEntry Item) → is_called trader number x ≡ true → is_called name n x ≡ false) where
      lone_changed_first : (b : Bool) (e x : DeskEntry Item) (xs new : List (DeskEntry Item)) → b ≡ false → e ≡ x
          → is_called trader number x ≡ true → Gone new
          → Lone e (if b then record x { item = f x.item } ∷ xs else x ∷ new)
      lone_changed_first true e x xs new other same its g = absurd (both_ways true other refl)
      lone_changed_first false e x xs new other same its g = inl (same, its, g)

      lone_changed_later : (b : Bool) (e x : DeskEntry Item) (xs new : List (DeskEntry Item))
          → is_called trader number x ≡ false → Lone e xs → Lone e new
          → Lone e (if b then record x { item = f x.item } ∷ xs else x ∷ new)
      lone_changed_later true e x xs new other h k = inr (other, h)
      lone_changed_later false e x xs new other h k = inr (other, k)

      pub lone_changed : (e : DeskEntry Item) (es : List (DeskEntry Item)) → Lone e es → Lone e (change_first name n f es)
      lone_changed e [] h = absurd h
      lone_changed e (x ∷ xs) (inl h) = lone_changed_first (is_called name n x) e x xs (change_first name n f xs)
          (apart x h.1) h.0 h.1 (gone_changed xs h.2)
      lone_changed e (x ∷ xs) (inr h) = lone_changed_later (is_called name n x) e x xs (change_first name n f xs) h.0 h.1
          (lone_changed e xs h.1)

      lone_without_first : (b : Bool) (e x : DeskEntry Item) (xs new : List (DeskEntry Item)) → b ≡ false → e ≡ x
          → is_called trader number x ≡ true → Gone new → Lone e (if b then xs else x ∷ new)
      lone_without_first true e x xs new other same its g = absurd (both_ways true other refl)
      lone_without_first false e x xs new other same its g = inl (same, its, g)

      lone_without_later : (b : Bool) (e x : DeskEntry Item) (xs new : List (DeskEntry Item))
          → is_called trader number x ≡ false → Lone e xs → Lone e new → Lone e (if b then xs else x ∷ new)
      lone_without_later true e x xs new other h k = h
      lone_without_later false e x xs new other h k = inr (other, k)

      pub lone_without : (e : DeskEntry Item) (es : List (DeskEntry Item)) → Lone e es → Lone e (without name n es)
      lone_without e [] h = absurd h
      lone_without e (x ∷ xs) (inl h) = lone_without_first (is_called name n x) e x xs (without name n xs)
          (apart x h.1) h.0 h.1 (gone_without xs h.2)
      lone_without e (x ∷ xs) (inr h) = lone_without_later (is_called name n x) e x xs (without name n xs) h.0 h.1
          (lone_without e xs h.1)

  -- ---- the one itself has less left, or is taken off

  module _ (f : Item → Item) where
    own_changed_first : (b : Bool) (e x : DeskEntry Item) (xs new : List (DeskEntry Item)) → b ≡ true → e ≡ x
        → is_called trader number x ≡ true → Gone xs
        → Lone (record e { item = f e.item }) (if b then record x { item = f x.item } ∷ xs else x ∷ new)
    own_changed_first true e x xs new flag same its g =
        inl (ap (λ (y : DeskEntry Item). record y { item = f y.item }) same, its, g)
    own_changed_first false e x xs new flag same its g = absurd (both_ways false refl flag)

    own_changed_later : (b : Bool) (e x : DeskEntry Item) (xs new : List (DeskEntry Item)) → b ≡ false
        → is_called trader number x ≡ false → Lone (record e { item = f e.item }) new
        → Lone (record e { item = f e.item }) (if b then record x { item = f x.item } ∷ xs else x ∷ new)
    own_changed_later true e x xs new flag other h = absurd (both_ways true flag refl)
    own_changed_later false e x xs new flag other h = inr (other, h)

    pub own_changed : (e : DeskEntry Item) (es : List (DeskEntry Item)) → Lone e es
        → Lone (record e { item = f e.item }) (change_first trader number f es)
    own_changed e [] h = absurd h
    own_changed e (x ∷ xs) (inl h) = own_changed_first (is_called trader number x) e x xs (change_first trader number f xs)
        h.1 h.0 h.1 h.2
    own_changed e (x ∷ xs) (inr h) = own_changed_later (is_called trader number x) e x xs (change_first trader number f xs)
        h.0 h.0 (own_changed e xs h.1)

  own_without_first : (b : Bool) (x : DeskEntry Item) (xs new : List (DeskEntry Item)) → b ≡ true → Gone xs
      → Gone (if b then xs else x ∷ new)
  own_without_first true x xs new flag g = g
  own_without_first false x xs new flag g = absurd (both_ways false refl flag)

  own_without_later : (b : Bool) (x : DeskEntry Item) (xs new : List (DeskEntry Item)) → b ≡ false
      → is_called trader number x ≡ false → Gone new → Gone (if b then xs else x ∷ new)
  own_without_later true x xs new flag other g = absurd (both_ways true flag refl)
  own_without_later false x xs new flag other g = (other, g)

  pub own_without : (e : DeskEntry Item) (es : List (DeskEntry Item)) → Lone e es → Gone (without trader number es)
  own_without e [] h = absurd h
  own_without e (x ∷ xs) (inl h) = own_without_first (is_called trader number x) x xs (without trader number xs)
      h.1 h.2
  own_without e (x ∷ xs) (inr h) = own_without_later (is_called trader number x) x xs (without trader number xs)
      h.0 h.0 (own_without e xs h.1)

  -- ---- one call

  -- the other key is that of another
  apart_by : (name : List ℕ) (n : ℕ) (x : DeskEntry Item) → is_its trader number name n ≡ false
      → is_called trader number x ≡ true → (b : Bool) → is_called name n x ≡ b → is_called name n x ≡ false
  apart_by name n x other its false is = is
  apart_by name n x other its true is = absurd (both_ways (is_its trader number name n) other
      (same_keys name trader n number (sym (same_trader x.trader name x.number n is)
      ∙ same_trader x.trader trader x.number number its) (sym (same_number x.trader name x.number n is)
      ∙ same_number x.trader trader x.number number its)))

  apart : (name : List ℕ) (n : ℕ) → is_its trader number name n ≡ false → (x : DeskEntry Item)
      → is_called trader number x ≡ true → is_called name n x ≡ false
  apart name n other x its = apart_by name n x other its (is_called name n x) refl

  gone_given : (b : Bool) (f : Item → Item) (r : Option (DeskEntry Item)) → r ≡ None
      → (if b then batch_by trader number f r else []) ≡ []
  gone_given true f r is = ap (batch_by trader number f) is
  gone_given false f r is = refl

  pub gone_gives : (s : DeskState) (a : Event) → Gone s.entries → given_at trader number s a ≡ []
  gone_gives s Draw g = refl
  gone_gives s (Add e) g = refl
  gone_gives s (Left name n) g = refl
  gone_gives s (Next name n count order) g = gone_given (is_its trader number name n) (given_of count order)
      (find (is_called trader number) s.entries) (find_gone s.entries g)
  gone_gives s (Destroy name n) g = refl

  pub gone_after : (s : DeskState) (a : Event) → puts_others trader number a → Gone s.entries → Gone (after s a).entries
  gone_after s Draw others g = g
  gone_after s (Add e) others g = gone_put e s.entries g others
  gone_after s (Left name n) others g = g
  gone_after s (Next name n count order) others g = gone_changed name n (left_behind count order) s.entries g
  gone_after s (Destroy name n) others g = gone_without name n (λ i. i) s.entries g

  -- it gives its front, or nothing, and is there with the rest, or is no more
  pub record Gives (e : DeskEntry Item) (s : DeskState) (a : Event) : Type 0 where
    pub rest : Item
    pub whole : given_at trader number s a ++ things_of rest ≡ things_of e.item
    pub stays : Lone (record e { item = rest }) (after s a).entries ⊎ Gone (after s a).entries

  next_by : (e : DeskEntry Item) (s : DeskState) (name : List ℕ) (n count : ℕ) (order : Order) → Lone e s.entries → (b : Bool)
      → is_its trader number name n ≡ b → Gives e s (Next name n count order)
  next_by e s name n count order h true is =
      let same : name ≡ trader = same_trader name trader n number is in
      let number_is : n ≡ number = same_number name trader n number is in
      record {
        rest = left_behind count order e.item;
        whole = ap (λ (b : Bool). (if b then batch_by trader number (given_of count order)
            (find (is_called trader number) s.entries) else []) ++ things_of (left_behind count order e.item)) is
            ∙ ap (λ (r : Option (DeskEntry Item)). batch_by trader number (given_of count order) r
            ++ things_of (left_behind count order e.item)) (find_lone e s.entries h)
            ∙ things_parted (count_of count order e.item) e.item;
        stays = inl (subst (λ (k : List ℕ × ℕ). Lone (record e { item = left_behind count order e.item })
            (change_first k.0 k.1 (left_behind count order) s.entries)) (sym (ap (λ (x : List ℕ). (x, n)) same
            ∙ ap (λ (m : ℕ). (trader, m)) number_is)) (own_changed (left_behind count order) e s.entries h));
      }
  next_by e s name n count order h false is = record {
    rest = e.item;
    whole = ap (λ (b : Bool). (if b then batch_by trader number (given_of count order)
        (find (is_called trader number) s.entries) else []) ++ things_of e.item) is;
    stays = inl (lone_changed name n (left_behind count order) (apart name n is) e s.entries h);
  }

  destroy_by : (e : DeskEntry Item) (s : DeskState) (name : List ℕ) (n : ℕ) → Lone e s.entries → (b : Bool)
      → is_its trader number name n ≡ b → Gives e s (Destroy name n)
  destroy_by e s name n h true is =
      let same : name ≡ trader = same_trader name trader n number is in
      let number_is : n ≡ number = same_number name trader n number is in
      record {
        rest = e.item;
        whole = refl;
        stays = inr (subst (λ (k : List ℕ × ℕ). Gone (without k.0 k.1 s.entries)) (sym
            (ap (λ (x : List ℕ). (x, n)) same ∙ ap (λ (m : ℕ). (trader, m)) number_is)) (own_without e s.entries h));
      }
  destroy_by e s name n h false is = record {
    rest = e.item;
    whole = refl;
    stays = inl (lone_without name n (λ i. i) (apart name n is) e s.entries h);
  }

  pub gives : (e : DeskEntry Item) (s : DeskState) (a : Event) → puts_others trader number a → Lone e s.entries → Gives e s a
  gives e s Draw others h = record { rest = e.item; whole = refl; stays = inl h }
  gives e s (Add x) others h = record { rest = e.item; whole = refl; stays = lone_put e x s.entries h others }
  gives e s (Left name n) others h = record { rest = e.item; whole = refl; stays = inl h }
  gives e s (Next name n count order) others h = next_by e s name n count order h (is_its trader number name n) refl
  gives e s (Destroy name n) others h = destroy_by e s name n h (is_its trader number name n) refl

  -- ---- many calls

  pub gone_on : (acts : List Event) (s : DeskState) → PutOthers trader number acts → Gone s.entries
      → (join_lists (given trader number s acts) ≡ []) × Gone (fold after s acts).entries
  gone_on [] s others g = (refl, g)
  gone_on (a ∷ acts) s others g =
      let on = gone_on acts (after s a) others.1 (gone_after s a others.0 g) in (
        ap (λ (ts : List IteratorItem). ts ++ join_lists (given trader number (after s a) acts)) (gone_gives s a g) ∙ on.0,
        on.1,
      )

  -- what was given is the front, and what is left is the rest
  pub record Front (item : Item) (s : DeskState) (acts : List Event) : Type 0 where
    pub rest : List IteratorItem
    pub front : join_lists (given trader number s acts) ++ rest ≡ things_of item
    pub left : (x : DeskEntry Item) → find (is_called trader number) (fold after s acts).entries ≡ Some x
        → rest ≡ things_of x.item

  none_found : (r : Option (DeskEntry Item)) (x : DeskEntry Item) → r ≡ None → r ≡ Some x → ⊥
  none_found None x is found = both_ways false refl (ap (λ (r : Option (DeskEntry Item)). any r) found)
  none_found (Some y) x is found = both_ways false refl (sym (ap (λ (r : Option (DeskEntry Item)). any r) is))

  gone_front : (item : Item) (acts : List Event) (s : DeskState) → PutOthers trader number acts → Gone s.entries
      → Front item s acts
  gone_front item acts s others g =
      let on = gone_on acts s others g in
      record {
        rest = things_of item;
        front = ap (λ (ts : List IteratorItem). ts ++ things_of item) on.0;
        left = λ x found. absurd (none_found (find (is_called trader number) (fold after s acts).entries) x
            (find_gone (fold after s acts).entries on.1) found);
      }

  one_found : (e x : DeskEntry Item) (r : Option (DeskEntry Item)) → r ≡ Some e → r ≡ Some x → e ≡ x
  one_found e x r is found = some_same e x (sym is ∙ found)

  behind : (e : DeskEntry Item) (s : DeskState) (a : Event) (acts : List Event) (g : Gives e s a)
      → Front g.rest (after s a) acts → Front e.item s (a ∷ acts)
  behind e s a acts g f = record {
    rest = f.rest;
    front = append_assoc (given_at trader number s a) (join_lists (given trader number (after s a) acts)) f.rest
        ∙ ap (λ (ts : List IteratorItem). given_at trader number s a ++ ts) f.front ∙ g.whole;
    left = f.left;
  }

  front_on : (acts : List Event) (e : DeskEntry Item) (s : DeskState) (a : Event) → PutOthers trader number acts
      → (g : Gives e s a) → (Lone (record e { item = g.rest }) (after s a).entries → Front g.rest (after s a) acts)
      → Lone (record e { item = g.rest }) (after s a).entries ⊎ Gone (after s a).entries → Front e.item s (a ∷ acts)
  front_on acts e s a others g on (inl h) = behind e s a acts g (on h)
  front_on acts e s a others g on (inr h) = behind e s a acts g (gone_front g.rest acts (after s a) others h)

  pub front : (acts : List Event) (e : DeskEntry Item) (s : DeskState) → PutOthers trader number acts → Lone e s.entries
      → Front e.item s acts
  front [] e s others h = record {
    rest = things_of e.item;
    front = refl;
    left = λ x found. ap (λ (y : DeskEntry Item). things_of y.item)
        (one_found e x (find (is_called trader number) s.entries) (find_lone e s.entries h) found);
  }
  front (a ∷ acts) e s others h =
      let g = gives e s a others.0 h in
      front_on acts e s a others.1 g (λ k. front acts (record e { item = g.rest }) (after s a) others.1 k) g.stays

  -- ---- a whole history

  given_more : (before acts : List Event) (s : DeskState) → given trader number s (before ++ acts) ≡ given trader number
      s before ++ given trader number (fold after s before) acts
  given_more [] acts s = refl
  given_more (a ∷ before) acts s =
      ap (λ (tss : List (List IteratorItem)). given_at trader number s a ∷ tss) (given_more before acts (after s a))

  joined_more : (xss yss : List (List IteratorItem)) → join_lists (xss ++ yss) ≡ join_lists xss ++ join_lists yss
  joined_more [] yss = refl
  joined_more (xs ∷ xss) yss = ap (λ (ts : List IteratorItem). xs ++ ts) (joined_more xss yss)
      ∙ sym (append_assoc xs (join_lists xss) (join_lists yss))

  folded_more : (before acts : List Event) (s : DeskState) → fold after s (before ++ acts) ≡ fold after
      (fold after s before) acts
  folded_more [] acts s = refl
  folded_more (a ∷ before) acts s = folded_more before acts (after s a)

its_own : (e : DeskEntry Item) → is_called e.trader e.number e ≡ true
its_own e = same_keys e.trader e.trader e.number e.number refl refl

pub given_is_front : (before acts : List Event) (e : DeskEntry Item) → PutOthers e.trader e.number before
    → PutOthers e.trader e.number acts → (rest : List IteratorItem) × IsFrontOfList (before ++ Add e ∷ acts) e rest
given_is_front before acts e first later =
    let s = fold after empty_desk before in
    let none = gone_on e.trader e.number before empty_desk first tt in
    let f = front e.trader e.number acts e (after s (Add e)) later
    (lone_new e.trader e.number e s.entries none.1 (its_own e)) in
    let whole : join_lists (given e.trader e.number empty_desk (before ++ Add e ∷ acts)) ≡ join_lists (given e.trader e.number
    (after s (Add e)) acts) =
    ap join_lists (given_more e.trader e.number before (Add e ∷ acts) empty_desk)
    ∙ joined_more e.trader e.number (given e.trader e.number empty_desk before) (given e.trader e.number s (Add e ∷ acts))
    ∙ ap (λ (ts : List IteratorItem). ts ++ join_lists (given e.trader e.number (after s (Add e)) acts)) none.0 in (
      f.rest,
      record {
        front = ap (λ (ts : List IteratorItem). ts ++ f.rest) whole ∙ f.front;
        left = λ x found. f.left x (sym (ap (λ (z : DeskState). find (is_called e.trader e.number) z.entries)
            (folded_more e.trader e.number before (Add e ∷ acts) empty_desk)) ∙ found);
      },
    )
