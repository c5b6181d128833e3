-- A pass may put an iterator on the desk under the number that it has drawn.
use Rattle.std.proofs.Common.{◌≡◌, ◌≢◌, ℕ, zero, suc, ◌+◌, ◌≤◌, ◌<◌, Bool, true, false, ◌⊎◌, inl, inr, List, [], ◌∷◌, ◌++◌}
use Rattle.std.proofs.Common.{length, fold, take, Option, Some, None, Result, Ok, Err, IfOk, OnErr, is_some, nat_le, nat_lt}
use Rattle.std.proofs.Common.{cond, refl, sym, ap, subst, ◌∙◌, arith, length-append}
use Rattle.std.proofs.lemmas.Bool.{both_ways}
use Rattle.std.specs.Prelude.{slice_get}
use Rattle.td_cdr.specs.Marks.{In}
use Rattle.td_cdr.specs.Writing.{Draft}
use Rattle.td_cell.specs.Lists.{with_place}
use Rattle.td_cell.specs.Rules.{Before, first_view, opener, split_off}
use Rattle.td_cell.specs.declared.pass.View.{View}
use Rattle.td_iter.specs.declared.desk.DeskEntry.{DeskEntry}
use Rattle.td_iter.specs.declared.item.Item.{Item}
use Rattle.td_desk.proofs.Apart.{OnNone, drawn_apart, drawn_here, drawn_on, none_drawn}
use Rattle.td_desk.specs.Acting.{DeskActs, GivesBy, ExtendsHistory, draws_by, finds, note_act}
use Rattle.td_desk.specs.BookLaws.{acts_go_on}
use Rattle.td_desk.specs.Sharing.{InOrder, IsDrawable, IsDrawn, OwnActsAreOrdered, IsUnused, MayAct, MayAdd, MayUse}
use Rattle.td_desk.specs.Sharing.{StaysInOrder, ActsInTurn}
use Rattle.td_desk.specs.Standings.{DeskState, after, is_full, most, empty_desk, state_after}
use Rattle.td_desk.specs.declared.act.Act.{Act}
use Rattle.td_desk.specs.declared.act.Act.TheVariants as act
use Rattle.td_desk.specs.declared.act.Reply.{Reply}
use Rattle.td_desk.specs.declared.act.Reply.TheVariants as reply
use Rattle.td_desk.specs.declared.event.Event.{Event}
use Rattle.td_desk.specs.declared.event.Event.TheVariants.{Draw, Add, Left, Next, Destroy}
use Rattle.td_desk.specs.declared.fault.DeskFault.{DeskFault}

-- ---- places of a front

get_front : {X : Type 0} (xs ys : List X) (place : ℕ) → place < length xs → slice_get (xs ++ ys) place ≡ slice_get xs place
get_front [] ys place lt = absurd (let no : ⊥ = omega (arith, lt) in no)
get_front (x ∷ xs) ys zero lt = refl
get_front (x ∷ xs) ys (suc place) lt = get_front xs ys place (omega (arith, lt))

get_last : {X : Type 0} (xs : List X) (x : X) → slice_get (xs ++ x ∷ []) (length xs) ≡ Some x
get_last [] x = refl
get_last (y ∷ xs) x = get_last xs x

take_front : {X : Type 0} (xs ys : List X) → take (length xs) (xs ++ ys) ≡ xs
take_front [] ys = refl
take_front {X = X} (x ∷ xs) ys = ap (λ (zs : List X). x ∷ zs) (take_front xs ys)

folded : (h acts : List Event) (s : DeskState) → fold after s (h ++ acts) ≡ fold after (fold after s h) acts
folded [] acts s = refl
folded (a ∷ h) acts s = folded h acts (after s a)

take_of_front : {X : Type 0} (xs ys : List X) (n : ℕ) → n < length xs → take n (xs ++ ys) ≡ take n xs
take_of_front [] ys n lt = absurd (let no : ⊥ = omega (arith, lt) in no)
take_of_front (x ∷ xs) ys zero lt = refl
take_of_front {X = X} (x ∷ xs) ys (suc n) lt =
    ap (λ (zs : List X). x ∷ zs) (take_of_front xs ys n (omega (arith, lt)))

-- ---- the book before the turn

-- what was in order stays so while others go on
module _ (h b : List Event) (own : List ℕ) (g : ExtendsHistory h b) (o : OwnActsAreOrdered h own) where
  same_there : (place : ℕ) → In place own → slice_get b place ≡ slice_get h place
  same_there place i = ap (λ (x : List Event). slice_get x place) g.is ∙ get_front h g.rest place (o.within place i)

  drawn_still : (number : ℕ) → IsDrawn h own number → IsDrawn b own number
  drawn_still number d = record {
    place = d.place;
    own_place = d.own_place;
    draw = same_there d.place d.own_place ∙ d.draw;
    number_is = d.number_is ∙ ap (λ (x : List Event). (state_after x).draws + 1)
        (sym (ap (λ (x : List Event). take d.place x) g.is
        ∙ take_of_front h g.rest d.place (o.within d.place d.own_place)));
  }

  pub still : OwnActsAreOrdered b own
  still = record {
    within = λ place i. (let lt = o.within place i in
        (let long = ap length g.is in (let both = length-append h g.rest in omega (arith, lt, long, both))));
    drawn = λ place e i is never. o.drawn place e i (sym (same_there place i) ∙ is)
        (λ d. never (drawn_still e.number d));
    once = λ p q e f i j is to same. o.once p q e f i j (sym (same_there p i) ∙ is) (sym (same_there q j) ∙ to) same;
  }

-- ---- the turn

one_of : (place n : ℕ) (x : ℕ) (xs : List ℕ) → In place xs ⊎ (place ≡ n) → In place (x ∷ xs) ⊎ (place ≡ n)
one_of place n x xs (inl k) = inl (inr k)
one_of place n x xs (inr e) = inr e

in_last : (place n : ℕ) (xs : List ℕ) → In place (xs ++ n ∷ []) → In place xs ⊎ (place ≡ n)
in_last place n [] (inl e) = inr e
in_last place n [] (inr j) = absurd j
in_last place n (x ∷ xs) (inl e) = inl (inl e)
in_last place n (x ∷ xs) (inr j) = one_of place n x xs (in_last place n xs j)

in_more : (place n : ℕ) (xs : List ℕ) → In place xs → In place (xs ++ n ∷ [])
in_more place n [] i = absurd i
in_more place n (x ∷ xs) (inl e) = inl e
in_more place n (x ∷ xs) (inr i) = inr (in_more place n xs i)

is_last : (n : ℕ) (xs : List ℕ) → In n (xs ++ n ∷ [])
is_last n [] = inl refl
is_last n (x ∷ xs) = inr (is_last n xs)

-- an own place is one of before, or the new one, where there is one more
record IsNew (b c : List Event) (place : ℕ) : Type 0 where
  at : place ≡ length b
  more : length b < length c

grown_by : (x : Bool) (own : List ℕ) (b c : List Event) (place : ℕ) → nat_lt (length b) (length c) ≡ x
    → In place (cond x (own ++ length b ∷ []) own) → In place own ⊎ IsNew b c place
grown_by true own b c place is i = new (in_last place (length b) own i) where
  new : In place own ⊎ (place ≡ length b) → In place own ⊎ IsNew b c place
  new (inl j) = inl j
  new (inr e) = inr (record { at = e; more = grind (arith, is) })
grown_by false own b c place is i = inl i

-- ---- what the turn has noted

abbrev event_in : Option Event → Event
event_in None = Draw
event_in (Some a) = a

abbrev NoEntry : Option (DeskEntry Item) → Type 0
NoEntry None = Unit {0}
NoEntry (Some x) = ⊥

abbrev one_or : DeskEntry Item → Option (DeskEntry Item) → DeskEntry Item
one_or e None = e
one_or e (Some x) = x

abbrev entry_of : Event → Option (DeskEntry Item)
entry_of Draw = None
entry_of (Add e) = Some e
entry_of (Left trader number) = None
entry_of (Next trader number n order) = None
entry_of (Destroy trader number) = None

past_end : (h : List Event) (x : DeskEntry Item) → slice_get h (length h) ≡ Some (Add x) → ⊥
past_end [] x is = no_event x is where
  no_event : (x : DeskEntry Item) → None ≡ Some (Add x) → ⊥
  no_event x e = subst OnNone e tt
past_end (a ∷ h) x is = past_end h x is

-- what is put on the desk by a call that is noted
noted_entry : (full : Bool) (a : Event) (b c : List Event) (x : DeskEntry Item) → c ≡ note_act full a b
    → slice_get c (length b) ≡ Some (Add x) → entry_of a ≡ Some x
noted_entry true a b c x is at = absurd (past_end b x (ap (λ (h : List Event). slice_get h (length b)) (sym is) ∙ at))
noted_entry false a b c x is at =
    ap (λ (o : Option Event). entry_of (event_in o)) (sym (get_last b a) ∙ ap (λ (h : List Event). slice_get h (length b))
    (sym is) ∙ at)

-- ---- numbers that were drawn

drawn_within : (h : List Event) (s : DeskState) (place : ℕ) → slice_get h place ≡ Some Draw
    → (fold after s (take place h)).draws + 1 ≤ (fold after s h).draws
drawn_within [] s place is = absurd (none_drawn is)
drawn_within (a ∷ h) s zero is = (let one = drawn_here s a is in (let more = drawn_on (after s a) h in
    omega (arith, one, more)))
drawn_within (a ∷ h) s (suc place) is = drawn_within h (after s a) place is

was_drawn : (h : List Event) (own : List ℕ) (number : ℕ) → IsDrawn h own number → number ≤ (state_after h).draws
was_drawn h own number d =
    (let most = drawn_within h empty_desk d.place d.draw in omega (arith, most, d.number_is))

no_entry : (x : DeskEntry Item) → None ≡ Some x → ⊥
no_entry x e = subst NoEntry e tt

some_same : (e x : DeskEntry Item) → Some e ≡ Some x → e ≡ x
some_same e x is = ap (one_or e) is

draws_on : (h b : List Event) → ExtendsHistory h b → (state_after h).draws ≤ (state_after b).draws
draws_on h b g =
    (let more = drawn_on (state_after h) g.rest in
    (let same : (state_after b).draws ≡ (fold after (state_after h) g.rest).draws = ap (λ (x : List Event).
    (state_after x).draws) g.is ∙ ap (λ (s : DeskState). s.draws) (folded h g.rest empty_desk) in
    omega (arith, more, same)))

module _ (h : List Event) (trader : List ℕ) (number n : ℕ) (w back : Draft) (k : List Event) where
  given_entry : (y : Result (DeskEntry Item) DeskFault) (r : Result Bool DeskFault) (x : DeskEntry Item)
      → GivesBy h trader number n w back k y r → slice_get k (length h) ≡ Some (Add x) → None ≡ Some x
  given_entry (Ok e) (Ok more) x g at = noted_entry false (Next trader number n w.order) h k x g.history at
  given_entry (Ok e) (Err f) x g at = noted_entry true Draw h k x g.history at
  given_entry (Err fault) (Ok more) x g at = absurd g
  given_entry (Err fault) (Err f) x g at =
      noted_entry (is_full (state_after h).calls) (Next trader number n w.order) h k x g.history at

-- what an act has put on the desk is what it was given
put_by : (b : List Event) (a : Act) (r : Reply) (c : List Event) (x : DeskEntry Item) → DeskActs b a r c
    → slice_get c (length b) ≡ Some (Add x) → a ≡ act.Add x
put_by b act.Draw (reply.Drawn r) c x p at =
    absurd (no_entry x (noted_entry (is_full (state_after b).draws) Draw b c x p.history at))
put_by b act.Draw (reply.Added r) c x p at = absurd p
put_by b act.Draw (reply.Left r) c x p at = absurd p
put_by b act.Draw (reply.Next back r) c x p at = absurd p
put_by b act.Draw (reply.Destroyed r) c x p at = absurd p
put_by b (act.Add e) (reply.Drawn r) c x p at = absurd p
put_by b (act.Add e) (reply.Added r) c x p at =
    ap (λ (y : DeskEntry Item). act.Add y) (some_same e x (noted_entry (is_full (state_after b).adds) (Add e) b c x p.history
    at))
put_by b (act.Add e) (reply.Left r) c x p at = absurd p
put_by b (act.Add e) (reply.Next back r) c x p at = absurd p
put_by b (act.Add e) (reply.Destroyed r) c x p at = absurd p
put_by b (act.Left trader number) (reply.Drawn r) c x p at = absurd p
put_by b (act.Left trader number) (reply.Added r) c x p at = absurd p
put_by b (act.Left trader number) (reply.Left r) c x p at =
    absurd (no_entry x (noted_entry (is_full (state_after b).calls) (Left trader number) b c x p.history at))
put_by b (act.Left trader number) (reply.Next back r) c x p at = absurd p
put_by b (act.Left trader number) (reply.Destroyed r) c x p at = absurd p
put_by b (act.Next trader number n begun) (reply.Drawn r) c x p at = absurd p
put_by b (act.Next trader number n begun) (reply.Added r) c x p at = absurd p
put_by b (act.Next trader number n begun) (reply.Left r) c x p at = absurd p
put_by b (act.Next trader number n begun) (reply.Next back r) c x p at =
    absurd (no_entry x (given_entry b trader number n begun.writer back c (finds b trader number) r x p at))
put_by b (act.Next trader number n begun) (reply.Destroyed r) c x p at = absurd p
put_by b (act.Destroy trader number) (reply.Drawn r) c x p at = absurd p
put_by b (act.Destroy trader number) (reply.Added r) c x p at = absurd p
put_by b (act.Destroy trader number) (reply.Left r) c x p at = absurd p
put_by b (act.Destroy trader number) (reply.Next back r) c x p at = absurd p
put_by b (act.Destroy trader number) (reply.Destroyed r) c x p at =
    absurd (no_entry x (noted_entry (is_full (state_after b).calls) (Destroy trader number) b c x p.history at))

-- the pass after the turn
module _ (h b c : List Event) (own : List ℕ) (a : Act) (r : Reply) (g : ExtendsHistory h b) (o : OwnActsAreOrdered h own)
    (may : (e : DeskEntry Item) → a ≡ act.Add e → IsDrawn h own e.number × IsUnused h own e.number) (p : DeskActs b a r c) where
  goes : ExtendsHistory b c
  goes = acts_go_on b a r c p

  before : OwnActsAreOrdered b own
  before = still h b own g o

  behind : OwnActsAreOrdered c own
  behind = still b c own goes before

  its : (place : ℕ) (e : DeskEntry Item) → IsNew b c place → slice_get c place ≡ Some (Add e) → a ≡ act.Add e
  its place e n is = put_by b a r c e p (ap (slice_get c) (sym n.at) ∙ is)

  more_own : (x : Bool) (place : ℕ) → In place own → In place (cond x (own ++ length b ∷ []) own)
  more_own true place i = in_more place (length b) own i
  more_own false place i = i

  drawn_more : (number : ℕ) → IsDrawn c own number → IsDrawn c (with_place own (length b) (length c)) number
  drawn_more number d = record {
    place = d.place;
    own_place = more_own (nat_lt (length b) (length c)) d.place d.own_place;
    draw = d.draw;
    number_is = d.number_is;
  }

  one_own : (place : ℕ) → In place own ⊎ IsNew b c place → place < length c
  one_own place (inl i) = behind.within place i
  one_own place (inr n) = (let at = n.at in (let more = n.more in omega (arith, at, more)))

  one_drawn : (place : ℕ) (e : DeskEntry Item) → In place own ⊎ IsNew b c place → slice_get c place ≡ Some (Add e)
      → (IsDrawn c (with_place own (length b) (length c)) e.number → ⊥) → ⊥
  one_drawn place e (inl i) is never = behind.drawn place e i is (λ d. never (drawn_more e.number d))
  one_drawn place e (inr n) is never =
      never (drawn_more e.number (drawn_still b c own goes before e.number
      (drawn_still h b own g o e.number (may e (its place e n is)).0)))

  unused : (place : ℕ) (e f : DeskEntry Item) → In place own → slice_get c place ≡ Some (Add e) → a ≡ act.Add f
      → e.number ≢ f.number
  unused place e f i is to =
      (may f to).1 place e i (sym (same_there h b own g o place i) ∙ sym (same_there b c own goes before place i) ∙ is)

  one_once : (x y : ℕ) (e f : DeskEntry Item) → In x own ⊎ IsNew b c x → In y own ⊎ IsNew b c y
      → slice_get c x ≡ Some (Add e) → slice_get c y ≡ Some (Add f) → e.number ≡ f.number → x ≡ y
  one_once x y e f (inl i) (inl j) is to same = behind.once x y e f i j is to same
  one_once x y e f (inl i) (inr n) is to same = absurd (unused x e f i is (its y f n to) same)
  one_once x y e f (inr n) (inl j) is to same = absurd (unused y f e j to (its x e n is) (sym same))
  one_once x y e f (inr n) (inr m) is to same = n.at ∙ sym m.at

  pub in_order : OwnActsAreOrdered c (with_place own (length b) (length c))
  in_order = record {
    within = λ place i. one_own place (grown_by (nat_lt (length b) (length c)) own b c place refl i);
    drawn = λ place e i is never. one_drawn place e (grown_by (nat_lt (length b) (length c)) own b c place refl i) is
        never;
    once = λ x y e f i j is to same. one_once x y e f (grown_by (nat_lt (length b) (length c)) own b c x refl i)
        (grown_by (nat_lt (length b) (length c)) own b c y refl j) is to same;
  }

-- the number that was drawn may be used
module _ (h b : List Event) (own : List ℕ) (g : ExtendsHistory h b) (o : OwnActsAreOrdered h own) where
  abbrev c : List Event
  c = b ++ Draw ∷ []

  longer : nat_lt (length b) (length c) ≡ true
  longer = (let long = length-append b (Draw ∷ []) in grind (arith, long))

  grown_on : own ++ length b ∷ [] ≡ with_place own (length b) (length c)
  grown_on = sym (ap (λ (x : Bool). cond x (own ++ length b ∷ []) own) longer)

  unused_by : (place : ℕ) (e : DeskEntry Item) → In place own ⊎ (place ≡ length b) → slice_get c place ≡ Some (Add e)
      → e.number ≢ (state_after b).draws + 1
  unused_by place e (inl i) is same =
      let s = still h b own g o in
      s.drawn place e i (sym (get_front b (Draw ∷ []) place (s.within place i)) ∙ is) (λ d.
      (let most = was_drawn b own e.number d in (let no : ⊥ = omega (arith, most, same) in no)))
  unused_by place e (inr at) is same =
      no_entry e (noted_entry false Draw b c e refl (ap (slice_get c) (sym at) ∙ is))

  pub drawn_may_add : IsDrawn c (with_place own (length b) (length c)) ((state_after b).draws + 1)
      × IsUnused c (with_place own (length b) (length c)) ((state_after b).draws + 1)
  drawn_may_add = subst (λ (places : List ℕ). IsDrawn c places ((state_after b).draws + 1)
      × IsUnused c places ((state_after b).draws + 1)) grown_on (
        record {
          place = length b;
          own_place = is_last (length b) own;
          draw = get_last b Draw;
          number_is = ap (λ (x : List Event). (state_after x).draws + 1) (sym (take_front b (Draw ∷ [])));
        },
        λ place e i is. unused_by place e (in_last place (length b) own i) is,
      )

-- ---- passes

abbrev IsRefused : Result ℕ DeskFault → Type 0
IsRefused (Ok n) = ⊥
IsRefused (Err f) = Unit {0}

abbrev number_or : ℕ → Result ℕ DeskFault → ℕ
number_or n (Ok m) = m
number_or n (Err f) = n

-- of a value that is there
seen_is : (v : View (List Event)) (h b : List Event) → v.seen ≡ Some h → Before ExtendsHistory v.seen b → ExtendsHistory h b
seen_is v h b is g = subst (λ (o : Option (List Event)). Before ExtendsHistory o b) is g

history_or : List Event → Option (List Event) → List Event
history_or h None = h
history_or h (Some k) = k

same_history : (h k : List Event) → Some h ≡ Some k → h ≡ k
unfolding history_or
same_history h k is = ap (history_or h) is

module _ (v w : View (List Event)) (h : List Event) (seen : v.seen ≡ Some h) (o : InOrder v) where
  may_use : (a : Act) → MayAct v a → (e : DeskEntry Item) → a ≡ act.Add e
      → IsDrawn h v.own e.number × IsUnused h v.own e.number
  may_use a may e is = (subst (MayAct v) is may) h seen

  stays_so : (a : Act) (r : Reply) → MayAct v a → ActsInTurn v a r w → InOrder w
  stays_so a r may t = subst InOrder (sym t.is) (λ x is. subst (λ (k : List Event). OwnActsAreOrdered k
      (with_place v.own (length t.before) (length t.after))) (same_history t.after x is)
      (in_order h t.before t.after v.own a r (seen_is v h t.before seen t.later_than_seen.0) (o h seen)
      (may_use a may) t.act))

  drawn_by : (b : List Event) (n : ℕ) (c : List Event) (full : Bool) → Ok n ≡ draws_by full (state_after b).draws
      → c ≡ note_act full Draw b → (n ≡ (state_after b).draws + 1) × (c ≡ b ++ Draw ∷ [])
  drawn_by b n c true is to = absurd (subst IsRefused (sym is) tt)
  drawn_by b n c false is to = (ap (number_or n) is, to)

  may_add : (n : ℕ) → ActsInTurn v act.Draw (reply.Drawn (Ok n)) w → MayAdd w n
  may_add n t =
      let d = drawn_by t.before n t.after (is_full (state_after t.before).draws) t.act.result t.act.history in
      let g = seen_is v h t.before seen t.later_than_seen.0 in
      subst (λ (x : View (List Event)). MayAdd x n) (sym t.is) (λ x is.
      subst (λ (k : List Event). IsDrawn k (with_place v.own (length t.before) (length t.after)) n
      × IsUnused k (with_place v.own (length t.before) (length t.after)) n) (same_history t.after x is)
      (subst (λ (k : List Event). IsDrawn k (with_place v.own (length t.before) (length k)) n
      × IsUnused k (with_place v.own (length t.before) (length k)) n) (sym d.1)
      (subst (λ (m : ℕ). IsDrawn (t.before ++ Draw ∷ []) (with_place v.own (length t.before)
      (length (t.before ++ Draw ∷ []))) m × IsUnused (t.before ++ Draw ∷ []) (with_place v.own (length t.before)
      (length (t.before ++ Draw ∷ []))) m) (sym d.0) (drawn_may_add h t.before v.own g (o h seen)))))

-- a pass has seen a history
seen_of : (o : Option (List Event)) → is_some o ≡ true → (h : List Event) × (o ≡ Some h)
seen_of (Some h) is = (h, refl)
seen_of None is = absurd (both_ways false refl is)

module _ (v w : View (List Event)) (some : is_some v.seen ≡ true) where
  pub stays_in_order : (a : Act) (r : Reply) → MayAct v a → ActsInTurn v a r w → StaysInOrder v w
  stays_in_order a r may t = λ o. (let s = seen_of v.seen some in stays_so v w s.0 s.1 o a r may t)

  pub may_be_used : (r : Result ℕ DeskFault) → ActsInTurn v act.Draw (reply.Drawn r) w → IfOk r (MayUse v w)
  may_be_used (Ok n) t = λ o. (let s = seen_of v.seen some in may_add v w s.0 s.1 o n t)
  may_be_used (Err fault) t = tt

drawable_by : (full : Bool) (draws : ℕ) → nat_le most draws ≡ full → IfOk (draws_by full draws) IsDrawable
drawable_by true draws is = tt
drawable_by false draws is = record {
  lowest = omega arith;
  highest = grind (arith, is);
}

pub drawable : (v w : View (List Event)) (r : Result ℕ DeskFault) → ActsInTurn v act.Draw (reply.Drawn r) w
    → IfOk r IsDrawable
drawable v w r t =
    subst (λ (x : Result ℕ DeskFault). IfOk x IsDrawable) (sym t.act.result)
    (drawable_by (is_full (state_after t.before).draws) (state_after t.before).draws refl)

-- a pass without calls
no_calls : (h : List Event) → OwnActsAreOrdered h []
no_calls h = record {
  within = λ place i. absurd i;
  drawn = λ place e i is never. absurd i;
  once = λ p q e f i j is to same. absurd i;
}

pub first_in_order : (v : View (List Event)) (h : List Event) (n m : ℕ) → v ≡ first_view h n m → InOrder v
first_in_order v h n m is = subst InOrder (sym is) (λ k at. no_calls k)

pub split_in_order : {P E : Type 0} (know : P → View (List Event)) (v : View (List Event)) (r : Result P E)
    → IfOk r (λ p. know p ≡ split_off v) → IfOk r (λ p. InOrder (know p))
split_in_order know v (Ok p) is = subst InOrder (sym is) (λ k at. no_calls k)
split_in_order know v (Err e) is = tt

pub opener_in_order : {P E : Type 0} (A : Type 0) (v w : View (List Event)) (r : Result P E)
    → IfOk r (λ p. w ≡ opener v) → OnErr r (A × (w ≡ v)) → StaysInOrder v w
opener_in_order A v w (Ok p) is kept = λ o. subst InOrder (sym is) o
opener_in_order A v w (Err e) is kept = λ o. subst InOrder (sym kept.1) o

pub later_in_order : (h k : List Event) (own : List ℕ) → ExtendsHistory h k → OwnActsAreOrdered h own → OwnActsAreOrdered k own
later_in_order h k own g o = still h k own g o

-- ---- two passes

pub used_once : (h : List Event) (own others : List ℕ) → OwnActsAreOrdered h own → OwnActsAreOrdered h others
    → ((p : ℕ) → In p own → In p others → ⊥) → (p q : ℕ) (e f : DeskEntry Item) → In p own → In q others
    → slice_get h p ≡ Some (Add e) → slice_get h q ≡ Some (Add f) → e.number ≢ f.number
used_once h own others o s apart p q e f i j is to same =
    o.drawn p e i is (λ d. s.drawn q f j to (λ t.
    (let one = d.number_is in
    (let other = t.number_is in
    (let equal : (state_after (take d.place h)).draws ≡ (state_after (take t.place h)).draws =
    omega (arith, one, other, same) in
    apart d.place d.own_place (subst (λ (x : ℕ). In x others) (sym (drawn_apart h d.place t.place d.draw t.draw equal))
    t.own_place))))))
