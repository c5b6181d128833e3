-- The walk over links: what is marked and queued, step by step.
use Rattle.std.proofs.Common.{◌≡◌, ℕ, zero, suc, ◌+◌, ◌≤◌, ◌<◌, Bool, true, false, ◌||◌, ◌⊎◌, inl, inr, List, [], ◌∷◌}
use Rattle.std.proofs.Common.{◌++◌, length, get_or, set, replicate, refl, sym, ap, subst, ◌∙◌, arith}
use Rattle.std.specs.Prelude.{nat_eq, IsTrue}
use Rattle.std.proofs.lemmas.Bool.{false≢true, both_ways, cases_eq, cases_lt, eq-eqb, eqb-true, or_left, or_right}
use Rattle.std.proofs.lemmas.Bool.{or_cases}
use Rattle.std.proofs.lemmas.List.Folds.{list_any-append}
use Rattle.std.proofs.lemmas.List.{get_or_read, get_or-set_same, get_or-set_other, length-set, length-append}
use Rattle.std.proofs.lemmas.List.{get_or_append_left, get_or_push, get_or_past}
use Rattle.td_types.specs.Reaching.{is_in, is_marked, links_at, IsLeast}
use Rattle.td_types.specs.Marking.{Marks, AreMarked, AreQueued, count_unmarked}

in-push : (place : ℕ) (places : List ℕ) (p : ℕ) → is_in place (places ++ p ∷ []) ≡ true
    → (is_in place places ≡ true) ⊎ (place ≡ p)
in-push place places p h =
    elim (or_cases (is_in place places) (nat_eq place p || false)
    (sym (list_any-append (nat_eq place) places (p ∷ [])) ∙ h)) [
      | inl before ↦ inl before
      | inr last ↦ elim (or_cases (nat_eq place p) false last)
          [ inl same ↦ inr (eqb-true place p same) | inr nothing ↦ absurd (false≢true nothing) ]
    ]

in-before : (place : ℕ) (places : List ℕ) (p : ℕ) → is_in place places ≡ true → is_in place (places ++ p ∷ []) ≡ true
in-before place places p h =
    list_any-append (nat_eq place) places (p ∷ []) ∙ or_left (is_in place places) (nat_eq place p || false) h

in-last : (places : List ℕ) (p : ℕ) → is_in p (places ++ p ∷ []) ≡ true
in-last places p =
    list_any-append (nat_eq p) places (p ∷ [])
    ∙ or_right (is_in p places) (nat_eq p p || false) (or_left (nat_eq p p) false (eq-eqb p p refl))

-- where in a list
in-at : (place : ℕ) (places : List ℕ) → is_in place places ≡ true
    → (i : ℕ) × (i < length places) × (get_or places i 0 ≡ place)
in-at place [] h = absurd (false≢true h)
in-at place (p ∷ places) h =
    elim (or_cases (nat_eq place p) (is_in place places) h) [
      | inl same ↦ (0, omega arith, sym (eqb-true place p same))
      | inr there ↦ let f = in-at place places there in (suc f.0, omega (arith, f.1), f.2)
    ]

pub marked-within : (marks : List Bool) (place : ℕ) → is_marked marks place ≡ true → place < length marks
marked-within marks place h =
    elim (cases_lt place (length marks)) [
      | inl below ↦ below
      | inr past ↦ absurd
          (both_ways (is_marked marks place) (get_or_past marks place false past) h)
    ]

marked-set : (marks : List Bool) (p : ℕ) → p < length marks → is_marked (set marks p true) p ≡ true
marked-set marks p h = get_or-set_same marks p true false h

marked-kept : (marks : List Bool) (p place : ℕ) → p < length marks → is_marked marks place ≡ true
    → is_marked (set marks p true) place ≡ true
marked-kept marks p place h m =
    elim (cases_eq place p) [
      | inl same ↦ rw same (marked-set marks p h)
      | inr other ↦ get_or-set_other marks p place true false other ∙ m
    ]

marked-only : (marks : List Bool) (p place : ℕ) → is_marked (set marks p true) place ≡ true
    → (is_marked marks place ≡ true) ⊎ (place ≡ p)
marked-only marks p place m =
    elim (cases_eq place p) [
      | inl same ↦ inr same
      | inr other ↦ inl (sym (get_or-set_other marks p place true false other) ∙ m)
    ]

unmarked-set : (marks : List Bool) (p : ℕ) → p < length marks → is_marked marks p ≡ false
    → count_unmarked (set marks p true) + 1 ≡ count_unmarked marks
unmarked-set [] p h e = absurd (omega (arith, h))
unmarked-set (mark ∷ marks) zero h e = rw e (omega arith)
unmarked-set (mark ∷ marks) (suc p) h e = let i = unmarked-set marks p (omega (arith, h)) e in omega (arith, i)

-- ---- places that are marked in turn

pub marks_skip : (places : List ℕ) (p : ℕ) (marks : List Bool) (queue : List ℕ) (marked : List Bool) (queued : List ℕ)
    → is_marked marked p ≡ true → Marks places marks queue marked queued
    → Marks (places ++ p ∷ []) marks queue marked queued
marks_skip places p marks queue marked queued h s = record {
  count = s.count;
  kept = s.kept;
  all = λ place i. elim (in-push place places p i) [ inl before ↦ s.all place before | inr last ↦ rw last h ];
  only = λ place m. elim (s.only place m) [ inl was ↦ inl was | inr new ↦ inr (in-before place places p new) ];
  longer = s.longer;
  grows = s.grows;
  front = s.front;
  are_marked = s.are_marked;
  are_queued = s.are_queued;
}

pub marks_push : (places : List ℕ) (p : ℕ) (marks : List Bool) (queue : List ℕ) (marked : List Bool) (queued : List ℕ)
    → p < length marks → is_marked marked p ≡ false → Marks places marks queue marked queued
    → Marks (places ++ p ∷ []) marks queue (set marked p true) (queued ++ p ∷ [])
marks_push places p marks queue marked queued h e s =
    let k : p < length marked = omega (arith, h, s.count) in
    record {
      count = length-set marked p true ∙ s.count;
      kept = λ place m. marked-kept marked p place k (s.kept place m);
      all =
          λ place i. elim (in-push place places p i) [
            | inl before ↦ marked-kept marked p place k (s.all place before)
            | inr last ↦ rw last (marked-set marked p k)
          ];
      only = λ place m. elim (marked-only marked p place m) [
        | inl was ↦ elim (s.only place was) [ inl first ↦ inl first | inr new ↦ inr (in-before place places p new) ]
        | inr last ↦ inr (rw last (in-last places p))
      ];
      longer = omega (arith, s.longer, unmarked-set marked p k e, length-append queued (p ∷ []));
      grows = omega (arith, s.grows, length-append queued (p ∷ []));
      front = λ i b. get_or_append_left queued (p ∷ []) 0 i (omega (arith, b, s.grows)) ∙ s.front i b;
      are_marked = λ a i b. elim (cases_lt i (length queued)) [
        | inl before ↦ rw (get_or_append_left queued (p ∷ []) 0 i before)
            (marked-kept marked p (get_or queued i 0) k (s.are_marked a i before))
        | inr last ↦ rw (get_or_push queued p 0 i (omega (arith, b, last, length-append queued (p ∷ []))))
            (marked-set marked p k)
      ];
      are_queued = λ a place m. elim (marked-only marked p place m) [
        | inl was ↦ in-before place queued p (s.are_queued a place was)
        | inr last ↦ rw last (in-last queued p)
      ];
    }

-- ---- the walk

-- what is known when the first places of the queue have been looked at
pub record Walked (links : List (List ℕ)) (starts : List ℕ) (marks : List Bool) (queue : List ℕ) (next : ℕ) : Type
    0 where
  pub count : length marks ≡ length links
  pub within : next ≤ length queue
  pub holds_starts : (place : ℕ) → IsTrue (is_in place starts) → IsTrue (is_marked marks place)
  pub looked : (i : ℕ) → i < next → (to : ℕ) → IsTrue (is_in to (links_at links (get_or queue i 0)))
      → IsTrue (is_marked marks to)
  pub are_queued : AreQueued marks queue
  pub are_marked : AreMarked marks queue
  pub least : (test : ℕ → Bool) → ((place : ℕ) → IsTrue (is_in place starts) → IsTrue (test place))
      → ((from to : ℕ) → IsTrue (test from) → IsTrue (is_in to (links_at links from)) → IsTrue (test to)) → (place : ℕ)
      → IsTrue (is_marked marks place) → IsTrue (test place)

none-marked : (n place : ℕ) → is_marked (replicate n false) place ≡ true → ⊥
none-marked zero place h = false≢true h
none-marked (suc n) zero h = false≢true h
none-marked (suc n) (suc place) h = none-marked n place h

pub walked_more : (links : List (List ℕ)) (starts : List ℕ) (marks : List Bool) (queue : List ℕ) (next : ℕ)
    (marked : List Bool) (queued : List ℕ)
    → next < length queue → Marks (links_at links (get_or queue next 0)) marks queue marked queued
    → Walked links starts marks queue next → Walked links starts marked queued (next + 1)
walked_more links starts marks queue next marked queued b s w = record {
  count = s.count ∙ w.count;
  within = omega (arith, b, s.grows);
  holds_starts = λ place h. s.kept place (w.holds_starts place h);
  looked = λ i below to h. elim (cases_lt i next) [
    | inl before ↦ s.kept to (w.looked i before to
        (subst (λ (place : ℕ). is_in to (links_at links place) ≡ true) (s.front i (omega (arith, before, b))) h))
    | inr last ↦
        let e : i ≡ next = omega (arith, below, last) in
        s.all to (subst (λ (place : ℕ). is_in to (links_at links place) ≡ true)
        (s.front i (omega (arith, e, b)) ∙ ap (λ (j : ℕ). get_or queue j 0) e) h)
  ];
  are_queued = s.are_queued w.are_queued;
  are_marked = s.are_marked w.are_marked;
  least = λ test t c place m. elim (s.only place m) [
    | inl was ↦ w.least test t c place was
    | inr new ↦ c (get_or queue next 0) place (w.least test t c (get_or queue next 0) (w.are_marked next b)) new
  ];
}

pub walked_all : (links : List (List ℕ)) (starts : List ℕ) (marks : List Bool) (queue : List ℕ) (next : ℕ)
    → length queue ≤ next → Walked links starts marks queue next → IsLeast links starts marks
walked_all links starts marks queue next b w = record {
  count = w.count;
  holds_starts = w.holds_starts;
  closed = λ from to m h.
      let f = in-at from queue (w.are_queued from m) in
      w.looked f.0 (omega (arith, f.1, b)) to (rw f.2 h);
  least = w.least;
}

-- the place that is looked at next has links, and they lead to places that can be marked
pub next-within : (links : List (List ℕ)) (starts : List ℕ) (marks : List Bool) (queue : List ℕ) (next : ℕ)
    → next < length queue → Walked links starts marks queue next → get_or queue next 0 < length links
next-within links starts marks queue next b w =
    let m = marked-within marks (get_or queue next 0) (w.are_marked next b) in
    omega (arith, m, w.count)

pub in-index : (places : List ℕ) (i : ℕ) → i < length places → is_in (get_or places i 0) places ≡ true
in-index [] i h = absurd (omega (arith, h))
in-index (p ∷ places) zero h = or_left (nat_eq p p) (is_in p places) (eq-eqb p p refl)
in-index (p ∷ places) (suc i) h =
    or_right (nat_eq (get_or places i 0) p) (is_in (get_or places i 0) places) (in-index places i (omega (arith, h)))

pub read_mark : (marks : List Bool) (p : ℕ) (read mark : Bool) → p < length marks → read ≡ get_or marks p read
    → read ≡ mark → is_marked marks p ≡ mark
read_mark marks p read mark h r m = sym (get_or_read marks p read h r false) ∙ m

-- ---- what the loop reads

pub place-within : (links : List (List ℕ)) (starts : List ℕ) (marks : List Bool) (queue : List ℕ) (next place : ℕ)
    → next < length queue → place ≡ get_or queue next place → Walked links starts marks queue next
    → place < length links
place-within links starts marks queue next place b r w =
    rw (get_or_read queue next place b r 0) (next-within links starts marks queue next b w)

pub places-read : (links : List (List ℕ)) (queue : List ℕ) (next place : ℕ) (read places : List ℕ) → next < length queue
    → place ≡ get_or queue next place → place < length links → read ≡ get_or links place read → places ≡ read
    → places ≡ links_at links (get_or queue next 0)
places-read links queue next place read places b r h l p =
    p ∙ get_or_read links place read h l [] ∙ ap (λ (k : ℕ). links_at links k) (get_or_read queue next place b r 0)
