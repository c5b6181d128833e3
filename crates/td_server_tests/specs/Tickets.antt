-- A kind of server whose sessions share a roll of tickets: each draws one.
use Rattle.std.proofs.Common.{◌≡◌, ◌≤◌, ◌⊎◌, inl, inr, ℕ, Bool, true, false, List, [], ◌∷◌, ◌++◌}
use Rattle.std.proofs.Common.{Option, None, Some, is_some, map, refl, sym, subst, arith, true≢false, nat_eq, ◌||◌}
use Rattle.std.proofs.Common.{ap, ◌∙◌}
use Rattle.std.proofs.lemmas.Bool.{eq-eqb}
use Rattle.std.specs.List.{list_any}
use Rattle.td_accept.specs.Doors.{Door}
use Rattle.td_accept.specs.declared.visitor.Limited.{Limited}
use Rattle.td_cdr.specs.Marks.{In}
use Rattle.td_server.specs.Kinds.{ServerKind, Laws}
use Rattle.td_server.specs.Sessions.{ServerState, HandedSessions}

-- the highest ticket that was seen, and one's own ones
pub record Roll : Type 0 where
  pub highest : ℕ
  pub own : List ℕ

abbrev pub seen_of : (highest : ℕ) → (own : List ℕ) → Roll
seen_of highest own = record { highest = highest; own = own }

-- no ticket is drawn by two
pub record JoinsRoll (w e u : Roll) : Type 0 where
  pub before : w.highest ≤ u.highest
  pub seen : e.highest ≤ u.highest
  pub own : u.own ≡ w.own ++ e.own
  pub apart : (ticket : ℕ) → In ticket w.own → In ticket e.own → ⊥

-- one ticket, at most this one
abbrev pub IsOne : List ℕ → (highest : ℕ) → Type 0
IsOne [] highest = ⊥
IsOne (ticket ∷ []) highest = ticket ≤ highest
IsOne (ticket ∷ other ∷ rest) highest = ⊥

-- A session was served: it has drawn one ticket, and keeps its first random word.
pub record Draws (first : Roll) (words : ℕ → ℕ) (word : ℕ) (last : Roll) : Type 0 where
  pub seen : first.highest ≤ last.highest
  pub own : IsOne last.own last.highest
  pub kept : word ≡ words 0

abbrev pub tickets : ServerKind
tickets = record {
  World = Roll;
  Given = Unit {0};
  Outside = Unit {0};
  Kept = ℕ;
  Closed = Unit {0};
  Thing = Unit {0};
  bare = λ w. record w { own = [] };
  Continues = λ v w. v.highest ≤ w.highest;
  Joins = JoinsRoll;
  own = λ w i. w.own;
  Serves = λ given first words before after kept last. Draws first words kept last;
}

-- the sessions that were handed on: their numbers, visitors, that these were limited, and their words
abbrev pub content_of : {X : Type 0} → List (ℕ × X × Option Limited × ℕ)
    → Option (HandedSessions tickets X)
content_of {X} hs = Some (record {
  sessions =
      map (λ (h : ℕ × X × Option Limited × ℕ). record {
        number = h.0;
        visitor = h.1;
        limited = is_some h.2;
        kept = h.3;
      }) hs;
  closed = None;
})

abbrev pub stand_of : {X : Type 0} → (seed : List ℕ) → Option (Door X)
    → List (ℕ × X × Option Limited × ℕ) → (highest : ℕ) → (own : List ℕ) → ServerState tickets X
stand_of seed door hs highest own = record {
  given = tt;
  seed = seed;
  door = door;
  content = content_of hs;
  world = seen_of highest own;
}

-- ---- its laws

in_back : (place : ℕ) (xs ys : List ℕ) → In place ys → In place (xs ++ ys)
in_back place [] ys h = h
in_back place (x ∷ xs) ys h = inr (in_back place xs ys h)

in_front : (place : ℕ) (xs ys : List ℕ) → In place xs → In place (xs ++ ys)
in_front place [] ys h = absurd h
in_front place (x ∷ xs) ys (inl e) = inl e
in_front place (x ∷ xs) ys (inr h) = inr (in_front place xs ys h)

in_which : (place : ℕ) (xs ys : List ℕ) → In place (xs ++ ys) → In place xs ⊎ In place ys
in_which place [] ys h = inr h
in_which place (x ∷ xs) ys (inl e) = inl (inl e)
in_which place (x ∷ xs) ys (inr h) =
    elim (in_which place xs ys h) as (λ _. In place (x ∷ xs) ⊎ In place ys)
    [ inl p ↦ inl (inr p) | inr p ↦ inr p ]

pub up_to : (a b c : ℕ) → a ≤ b → b ≤ c → a ≤ c
up_to a b c p q = omega arith

pub itself : (n : ℕ) → n ≤ n
itself n = omega arith

roll_stays : (w e u : Roll) (i : Unit {0}) (place : ℕ) → JoinsRoll w e u → In place w.own
    ⊎ In place e.own → In place u.own
roll_stays w e u i place j (inl h) = subst (In place) (sym j.own) (in_front place w.own e.own h)
roll_stays w e u i place j (inr h) = subst (In place) (sym j.own) (in_back place w.own e.own h)

pub ticket_laws : Laws tickets
ticket_laws = record {
  itself = λ w. itself w.highest;
  on = λ u v w p q. up_to u.highest v.highest w.highest p q;
  to_bare = λ v w p. p;
  bare_twice = λ w. refl;
  before = λ w e u j. j.before;
  seen = λ w e u j. j.seen;
  after = λ w e u i place j h. in_which place w.own e.own (subst (In place) j.own h);
  stays = roll_stays;
  apart = λ w e u i place j p q. j.apart place p q;
}

-- ---- a ticket that isn't found isn't there

self_eq : (n : ℕ) → nat_eq n n ≡ true
self_eq n = eq-eqb n n refl

or_true : (b : Bool) → (b || true) ≡ true
or_true true = refl
or_true false = refl

found : (ticket : ℕ) (xs : List ℕ) → In ticket xs → list_any (λ (y : ℕ). nat_eq y ticket) xs ≡ true
found ticket [] h = absurd h
found ticket (x ∷ xs) (inl e) =
    ap (λ (y : ℕ). nat_eq y ticket || list_any (λ (z : ℕ). nat_eq z ticket) xs) (sym e)
    ∙ ap (λ (b : Bool). b || list_any (λ (z : ℕ). nat_eq z ticket) xs) (self_eq ticket)
found ticket (x ∷ xs) (inr h) =
    ap (λ (b : Bool). nat_eq x ticket || b) (found ticket xs h) ∙ or_true (nat_eq x ticket)

pub not_in : (xs : List ℕ) (ticket place : ℕ) → list_any (λ (y : ℕ). nat_eq y ticket) xs ≡ false
    → In place xs → In place (ticket ∷ []) → ⊥
not_in xs ticket place e h (inl i) = true≢false
    (sym (found ticket xs (subst (λ (n : ℕ). In n xs) i h)) ∙ e)
not_in xs ticket place e h (inr f) = f
