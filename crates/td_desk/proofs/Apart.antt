-- No item is given twice, and no number is drawn twice.
use Rattle.std.proofs.Common.{◌≡◌, ℕ, zero, suc, ◌+◌, ◌≤◌, ◌<◌, ◌⊎◌, inl, inr, List, [], ◌∷◌, ◌++◌, length, map, fold, take}
use Rattle.std.proofs.Common.{Option, Some, None, refl, sym, ap, subst, ◌∙◌, arith, length-append, append_assoc}
use Rattle.std.specs.Prelude.{slice_get, slice_index_or}
use Rattle.td_cdr.specs.Format.{upwards}
use Rattle.td_cdr.specs.Marks.{In}
use Rattle.td_iter.specs.declared.desk.DeskEntry.{DeskEntry}
use Rattle.td_iter.specs.declared.item.Item.{Item}
use Rattle.td_desk.proofs.Fronts.{given_is_front}
use Rattle.td_desk.specs.Giving.{PutOthers, IteratorItem, given, join_lists, places_at, places_by, places_through}
use Rattle.td_desk.specs.Giving.{things_of}
use Rattle.td_desk.specs.Standings.{DeskState, after, empty_desk, state_after}
use Rattle.td_desk.specs.declared.event.Event.{Event}
use Rattle.td_desk.specs.declared.event.Event.TheVariants.{Draw, Add, Left, Next, Destroy}

-- ---- the places that calls give are apart

low : (from n k : ℕ) → In k (upwards from n) → from ≤ k
low from zero k i = absurd i
low from (suc n) k (inl e) = omega (arith, e)
low from (suc n) k (inr i) = (let more = low (suc from) n k i in omega (arith, more))

high : (from n k : ℕ) → In k (upwards from n) → k < from + n
high from zero k i = absurd i
high from (suc n) k (inl e) = omega (arith, e)
high from (suc n) k (inr i) = (let more = high (suc from) n k i in omega (arith, more))

module _ {X : Type 0} where
  from_on : (from : ℕ) (xss : List (List X)) (p k : ℕ) → In k (slice_index_or (places_by from xss) p []) → from ≤ k
  from_on from [] p k i = absurd i
  from_on from (xs ∷ xss) zero k i = low from (length xs) k i
  from_on from (xs ∷ xss) (suc p) k i = (let more = from_on (from + length xs) xss p k i in omega (arith, more))

  places_apart : (from : ℕ) (xss : List (List X)) (p q k : ℕ) → In k (slice_index_or (places_by from xss) p [])
      → In k (slice_index_or (places_by from xss) q []) → p ≡ q
  places_apart from [] p q k i j = absurd i
  places_apart from (xs ∷ xss) zero zero k i j = refl
  places_apart from (xs ∷ xss) zero (suc q) k i j =
      absurd (let less = high from (length xs) k i in
      (let more = from_on (from + length xs) xss q k j in (let no : ⊥ = omega (arith, less, more) in no)))
  places_apart from (xs ∷ xss) (suc p) zero k i j =
      absurd (let less = high from (length xs) k j in
      (let more = from_on (from + length xs) xss p k i in (let no : ⊥ = omega (arith, less, more) in no)))
  places_apart from (xs ∷ xss) (suc p) (suc q) k i j = ap suc (places_apart (from + length xs) xss p q k i j)

in_either : (k : ℕ) (xs ys : List ℕ) → In k (xs ++ ys) → In k xs ⊎ In k ys
in_either k [] ys i = inr i
in_either k (x ∷ xs) ys (inl e) = inl (inl e)
in_either k (x ∷ xs) ys (inr i) = in_later (in_either k xs ys i) where
  in_later : In k xs ⊎ In k ys → In k (x ∷ xs) ⊎ In k ys
  in_later (inl j) = inl (inr j)
  in_later (inr j) = inr j

-- one of these places gives it
pub record GivenBy (f : ℕ → List ℕ) (own : List ℕ) (k : ℕ) : Type 0 where
  pub place : ℕ
  pub is_own : In place own
  pub gives : In k (f place)

given_by : (f : ℕ → List ℕ) (own : List ℕ) (k : ℕ) → In k (join_lists (map f own)) → GivenBy f own k
given_by f [] k i = absurd i
given_by f (p ∷ own) k i = at (λ j. given_by f own k j) (in_either k (f p) (join_lists (map f own)) i) where
  at : (In k (join_lists (map f own)) → GivenBy f own k) → In k (f p) ⊎ In k (join_lists (map f own)) → GivenBy f (p ∷ own) k
  at on (inl j) = record { place = p; is_own = inl refl; gives = j }
  at on (inr j) = let g = on j in record { place = g.place; is_own = inr g.is_own; gives = g.gives }

pub calls_apart : (h : List Event) (e : DeskEntry Item) (p q k : ℕ) → In k (places_at h e p) → In k (places_at h e q) → p ≡ q
calls_apart h e p q k i j = places_apart 0 (given e.trader e.number empty_desk h) p q k i j

pub passes_apart : (h : List Event) (e : DeskEntry Item) (own others : List ℕ)
    → ((p : ℕ) → In p own → In p others → ⊥) → (k : ℕ) → In k (places_through h e own)
    → In k (places_through h e others) → ⊥
passes_apart h e own others disjoint k i j =
    let g = given_by (places_at h e) own k i in
    let o = given_by (places_at h e) others k j in
    disjoint g.place g.is_own (subst (λ (p : ℕ). In p others) (sym (calls_apart h e g.place o.place k g.gives o.gives))
    o.is_own)

-- ---- what stands at these places

module _ {X : Type 0} where
  get_first : (pre : List X) (x : X) (xs : List X) → slice_get (pre ++ x ∷ xs) (length pre) ≡ Some x
  get_first [] x xs = refl
  get_first (y ∷ pre) x xs = get_first pre x xs

  gets : (pre xs post : List X) → map (slice_get (pre ++ (xs ++ post))) (upwards (length pre) (length xs)) ≡ map Some xs
  gets pre [] post = refl
  gets pre (x ∷ xs) post =
      let moved : (pre ++ x ∷ []) ++ (xs ++ post) ≡ pre ++ (x ∷ xs ++ post) = append_assoc pre (x ∷ []) (xs ++ post) in
      let long : length (pre ++ x ∷ []) ≡ suc (length pre) = (let l = length-append pre (x ∷ []) in omega (arith, l)) in
      ap (λ (o : Option X). o ∷ map (slice_get (pre ++ (x ∷ xs ++ post))) (upwards (suc (length pre)) (length xs)))
      (get_first pre x (xs ++ post))
      ∙ ap (λ (os : List (Option X)). Some x ∷ os)
      (ap (λ (n : ℕ). map (slice_get (pre ++ (x ∷ xs ++ post))) (upwards n (length xs))) (sym long)
      ∙ ap (λ (ys : List X). map (slice_get ys) (upwards (length (pre ++ x ∷ [])) (length xs))) (sym moved)
      ∙ gets (pre ++ x ∷ []) xs post)

  gives_at : (pre : List X) (xss : List (List X)) (rest : List X) (p : ℕ)
      → map (slice_get (pre ++ (join_lists xss ++ rest))) (slice_index_or (places_by (length pre) xss) p [])
      ≡ map Some (slice_index_or xss p [])
  gives_at pre [] rest p = refl
  gives_at pre (xs ∷ xss) rest zero =
      ap (λ (ys : List X). map (slice_get (pre ++ ys)) (upwards (length pre) (length xs)))
      (append_assoc xs (join_lists xss) rest)
      ∙ gets pre xs (join_lists xss ++ rest)
  gives_at pre (xs ∷ xss) rest (suc p) =
      ap (λ (ys : List X). map (slice_get ys) (slice_index_or (places_by (length pre + length xs) xss) p []))
      (ap (λ (ys : List X). pre ++ ys) (append_assoc xs (join_lists xss) rest)
      ∙ sym (append_assoc pre xs (join_lists xss ++ rest)))
      ∙ ap (λ (n : ℕ). map (slice_get ((pre ++ xs) ++ (join_lists xss ++ rest)))
      (slice_index_or (places_by n xss) p [])) (sym (length-append pre xs))
      ∙ gives_at (pre ++ xs) xss rest p

pub items_given : (before acts : List Event) (e : DeskEntry Item) → PutOthers e.trader e.number before
    → PutOthers e.trader e.number acts → (place : ℕ) → map (slice_get (things_of e.item)) (places_at
    (before ++ Add e ∷ acts) e place) ≡ map Some (slice_index_or (given e.trader e.number empty_desk
    (before ++ Add e ∷ acts)) place [])
items_given before acts e first later place =
    let f = given_is_front before acts e first later in
    let h = before ++ Add e ∷ acts in
    ap (λ (ts : List IteratorItem). map (slice_get ts) (places_at h e place)) (sym f.1.front)
    ∙ gives_at [] (given e.trader e.number empty_desk h) f.0 place

-- ---- numbers that are drawn

drawn_later : (s : DeskState) (a : Event) → s.draws ≤ (after s a).draws
drawn_later s Draw = omega arith
drawn_later s (Add e) = omega arith
drawn_later s (Left trader number) = omega arith
drawn_later s (Next trader number n order) = omega arith
drawn_later s (Destroy trader number) = omega arith

pub drawn_on : (s : DeskState) (acts : List Event) → s.draws ≤ (fold after s acts).draws
drawn_on s [] = omega arith
drawn_on s (a ∷ acts) = (let one = drawn_later s a in (let more = drawn_on (after s a) acts in omega (arith, one, more)))

event_or : Option Event → Event
event_or None = Draw
event_or (Some a) = a

pub drawn_here : (s : DeskState) (a : Event) → Some a ≡ Some Draw → (after s a).draws ≡ s.draws + 1
unfolding event_or
drawn_here s a is = ap (λ (x : Event). (after s x).draws) (ap event_or is)

abbrev pub OnNone : Option Event → Type 0
OnNone None = Unit {0}
OnNone (Some a) = ⊥

pub none_drawn : None ≡ Some Draw → ⊥
none_drawn e = subst OnNone e tt

drawn_before : (h : List Event) (s : DeskState) (p q : ℕ) → p < q → slice_get h p ≡ Some Draw → (fold after s
    (take p h)).draws < (fold after s (take q h)).draws
drawn_before [] s p q lt is = absurd (none_drawn is)
drawn_before (a ∷ h) s zero zero lt is = absurd (let no : ⊥ = omega (arith, lt) in no)
drawn_before (a ∷ h) s zero (suc q) lt is =
    (let one = drawn_here s a is in (let more = drawn_on (after s a) (take q h) in omega (arith, one, more)))
drawn_before (a ∷ h) s (suc p) zero lt is = absurd (let no : ⊥ = omega (arith, lt) in no)
drawn_before (a ∷ h) s (suc p) (suc q) lt is = drawn_before h (after s a) p q (omega (arith, lt)) is

either_way : (p q : ℕ) → (p < q) ⊎ ((q < p) ⊎ (p ≡ q))
either_way p q = grind arith

pub drawn_apart : (h : List Event) (p q : ℕ) → slice_get h p ≡ Some Draw → slice_get h q ≡ Some Draw
    → (state_after (take p h)).draws ≡ (state_after (take q h)).draws → p ≡ q
drawn_apart h p q i j same = at (either_way p q) where
  at : (p < q) ⊎ ((q < p) ⊎ (p ≡ q)) → p ≡ q
  at (inl lt) = absurd (let less = drawn_before h empty_desk p q lt i in
      (let no : ⊥ = omega (arith, less, same) in no))
  at (inr (inl lt)) = absurd (let less = drawn_before h empty_desk q p lt j in
      (let no : ⊥ = omega (arith, less, same) in no))
  at (inr (inr e)) = e
