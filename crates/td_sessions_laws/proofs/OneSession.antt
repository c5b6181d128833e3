-- The accepted changes of one session, and the entries of the histories that are handed on.
use Rattle.std.proofs.Common.{◌≡◌, inl, inr, ℕ, ◌<◌, ◌≤◌, Bool, true, false, cond, List, [], ◌∷◌, ◌++◌, length, Some}
use Rattle.std.proofs.Common.{slice_get, refl, sym, subst, true≢false, ◌∙◌, arith}
use Rattle.std.proofs.lemmas.Bool.{eq-eqb, eqb-true}
use Rattle.std.specs.List.{AllByRecursion}
use Rattle.std.specs.Prelude.{nat_eq}
use Rattle.td_cdr.specs.Marks.{In, Marks}
use Rattle.td_changes.specs.Histories.{StandsAt}
use Rattle.td_fed.specs.Trails.{NeverFalls, only_of}
use Rattle.td_lookup.specs.Scenes.{Scene}
use Rattle.td_ops.specs.declared.call.Change.{Change}
use Rattle.td_register.specs.Entries.{entry}
use Rattle.td_register.specs.declared.history.Accepted.{Accepted}
use Rattle.td_servant.specs.declared.entry.Entry.{Entry}
use Rattle.td_servant.specs.declared.judging.Judged.{Judged}
use Rattle.td_session.specs.Headline.{Headline}
use Rattle.td_sessions_laws.proofs.Places.{Each, IsApart, each-cut, in-either, in-first, in-flat, in-second}
use Rattle.td_sessions_laws.proofs.Views.{IsFront, stands-on}
use Rattle.td_sessions_laws.specs.OneHistory.{MakesEntry}
use Rattle.td_trader.specs.PlainTraders.{PlainTrader}
use Rattle.td_trader.specs.Worlds.{View, history_at}
use Rattle.td_session_runs.specs.Journals.{Makes, all_places_in, all_served_at, asking, changing, is_accepted, linking}
use Rattle.td_session_runs.specs.Journals.{places_in, points_in, served_at}
use Rattle.td_session_runs.specs.Laws.{Stands}
use Rattle.td_session_runs.specs.Turns.{ServedRequest, Turn, noted_of}
use Rattle.td_walk.specs.declared.trace.Address.{Address}

-- ---- places and points

accepted-by : (b : Bool) (place : ℕ) (points : List ℕ) → In place (cond b points [])
    → (b ≡ true) × In place points
accepted-by true place points h = (refl, h)
accepted-by false place points h = absurd h

-- a Request with a place is an accepted change, and the place is a point of it
is-change : (k place : ℕ) (n : ServedRequest) → In place (places_in k n)
    → (is_accepted n ≡ true) × In place (points_in k n.entry)
is-change k place n h = accepted-by (is_accepted n) place (points_in k n.entry) h

only-by : (b : Bool) (trader k : ℕ) (point place : ℕ) → (b ≡ true → trader ≡ k) → In place (cond b (point ∷ []) [])
    → (trader ≡ k) × (place ≡ point)
only-by true trader k point place f (inl e) = (f refl, e)
only-by true trader k point place f (inr h) = absurd h
only-by false trader k point place f h = absurd h

only-there : (trader k point place : ℕ) → In place (only_of trader (point ∷ []) k) → (trader ≡ k) × (place ≡ point)
only-there trader k point place h = only-by (nat_eq trader k) trader k point place (eqb-true trader k) h

only-here : (trader point : ℕ) → In point (only_of trader (point ∷ []) trader)
only-here trader point =
    subst (λ (b : Bool). In point (cond b (point ∷ []) [])) (sym (eq-eqb trader trader refl)) (inl refl)

-- the change that a Request makes is at its one point
pub made-there : (k place : ℕ) {j : Judged} {e : Entry} {trader point : ℕ} {c : Change} → Makes j e trader point c
    → In place (points_in k e) → (trader ≡ k) × (place ≡ point)
made-there k place (changing x c point) h = only-there x.trader k point place h
made-there k place (linking x l point register) h = only-there x.trader k point place h
made-there k place (asking x l point gave) h = only-there x.trader k point place h

-- and an accepted one has that place
made-point : {j : Judged} {e : Entry} {trader point : ℕ} {c : Change} → Makes j e trader point c
    → In point (points_in trader e)
made-point (changing x c point) = only-here x.trader point
made-point (linking x l point register) = only-here x.trader point
made-point (asking x l point gave) = only-here x.trader point

served-there : (k place : ℕ) (ns : List ServedRequest) → In place (all_places_in k ns) → In place (all_served_at k ns)
served-there k place [] h = h
served-there k place (n ∷ ns) h =
    elim (in-either place (places_in k n) (all_places_in k ns) h)
    as (λ _. In place (points_in k n.entry ++ all_served_at k ns)) [
      | inl p ↦ in-first place (points_in k n.entry) (all_served_at k ns) (is-change k place n p).1
      | inr p ↦ in-second place (points_in k n.entry) (all_served_at k ns) (served-there k place ns p)
    ]

of-each : (P : ℕ → Type 0) (xs : List ℕ) (x : ℕ) → AllByRecursion P xs → In x xs → P x
of-each P [] x a h = absurd h
of-each P (y ∷ xs) x a (inl e) = subst P (sym e) a.0
of-each P (y ∷ xs) x a (inr h) = of-each P xs x a.1 h

no-lower : (low : ℕ) (xs : List ℕ) (high x : ℕ) → NeverFalls low xs high → In x xs → low ≤ x
no-lower low [] high x r h = absurd h
no-lower low (y ∷ xs) high x r (inl e) = subst (λ (i : ℕ). low ≤ i) (sym e) r.0
no-lower low (y ∷ xs) high x r (inr h) =
    let first = r.0 in let more = no-lower y xs high x r.1 h in omega (arith, first, more)

never-above : (point place : ℕ) → place ≡ point → point < place → ⊥
never-above point place e above = omega (arith, e, above)

-- ---- one session

-- the Request has a place in the history of some trader that is seen
pub record IsSomewhere (w : List View) (n : ServedRequest) : Type 0 where
  pub k : ℕ
  pub place : ℕ
  pub has : In place (places_in k n)
  pub entry_there : Accepted
  pub stands : slice_get (history_at w k) place ≡ Some entry_there

somewhere : (w : List View) (n : ServedRequest) (rest : List ServedRequest) → is_accepted n ≡ true → Stands w n rest → IsSomewhere w n
somewhere w n rest accepted s = record {
  k = s.trader;
  place = s.point;
  has =
      subst (λ (b : Bool). In s.point (cond b (points_in s.trader n.entry) [])) (sym accepted) (made-point s.made);
  entry_there = entry s.change s.content;
  stands = s.stands;
}

pub all-somewhere : (others : List Accepted → Type 0) (later : Marks → Marks → Type 0) (home : Address) (s u : Scene)
    (turns : List Turn) → Headline others later home s turns u
    → Each (λ (n : ServedRequest) (rest : List ServedRequest). is_accepted n ≡ true → IsSomewhere u.world n) (noted_of turns)
all-somewhere others later home s u turns h =
    each-cut (λ (n : ServedRequest) (rest : List ServedRequest). is_accepted n ≡ true → IsSomewhere u.world n) (noted_of turns)
    (λ before rest n is accepted. somewhere u.world n rest accepted (h.accepted before rest n is accepted))

-- a change of the Request is an entry since the opening, and no Request behind it has its place
pub record IsSafe (opened closed : PlainTrader) (k : ℕ) (n : ServedRequest) (rest : List ServedRequest) : Type 0 where
  pub stays : (place : ℕ) → In place (places_in k n)
      → (length opened.history ≤ place) × MakesEntry closed.history k place n
  pub apart : IsApart (places_in k) n rest

module _ (w : List View) (n : ServedRequest) (rest : List ServedRequest) (s : Stands w n rest) (closed : PlainTrader) (k : ℕ)
    (front : IsFront (history_at w k) closed.history) where
  makes-entry : (place : ℕ) → In place (places_in k n) → MakesEntry closed.history k place n
  makes-entry place h =
      let c = is-change k place n h in
      let t = made-there k place s.made c.1 in
      let there : StandsAt (history_at w k) s.point s.change s.content =
      subst (λ (i : ℕ). StandsAt (history_at w i) s.point s.change s.content) t.0 s.stands in
      record {
        accepted = c.0;
        change = s.change;
        made =
            subst (λ (i : ℕ). Makes n.judged n.entry k i s.change) (sym t.1)
            (subst (λ (i : ℕ). Makes n.judged n.entry i s.point s.change) t.0 s.made);
        content = s.content;
        outcome = s.outcome;
        stands =
            subst (λ (i : ℕ). StandsAt closed.history i s.change s.content) (sym t.1)
            (subst (λ (l : List Accepted). StandsAt l s.point s.change s.content) (sym front.is)
            (stands-on (history_at w k) front.more s.point (entry s.change s.content) there));
      }

  apart-behind : IsApart (places_in k) n rest
  apart-behind place h i =
      let t = made-there k place s.made (is-change k place n h).1 in
      let behind = subst (λ (j : ℕ). AllByRecursion (λ (p : ℕ). s.point < p) (all_served_at j rest)) t.0 s.later in
      never-above s.point place t.1
      (of-each (λ (p : ℕ). s.point < p) (all_served_at k rest) place behind (served-there k place rest i))

module _ (others : List Accepted → Type 0) (later : Marks → Marks → Type 0) (home : Address) (s u : Scene)
    (turns : List Turn) (h : Headline others later home s turns u) (opened closed : PlainTrader) (k : ℕ)
    (low : length opened.history ≤ length (history_at s.world k))
    (front : IsFront (history_at u.world k) closed.history) where
  since : (before rest : List ServedRequest) (n : ServedRequest) → noted_of turns ≡ before ++ n ∷ rest → (place : ℕ)
      → In place (places_in k n) → length opened.history ≤ place
  since before rest n is place i =
      let served : In place (all_served_at k (noted_of turns)) =
      subst (λ (l : List ServedRequest). In place (all_served_at k l)) (sym is)
      (in-flat (served_at k) place before rest n (is-change k place n i).1) in
      let above = no-lower (length (history_at s.world k)) (all_served_at k (noted_of turns))
      (length (history_at u.world k)) place (h.points k) served in
      omega (arith, low, above)

  safe : (before rest : List ServedRequest) (n : ServedRequest) → noted_of turns ≡ before ++ n ∷ rest → (b : Bool)
      → is_accepted n ≡ b → IsSafe opened closed k n rest
  safe before rest n is true accepted =
      let stands = h.accepted before rest n is accepted in
      record {
        stays = λ place i. (since before rest n is place i, makes-entry u.world n rest stands closed k front place i);
        apart = apart-behind u.world n rest stands closed k front;
      }
  safe before rest n is false refused =
      let none : (place : ℕ) → In place (places_in k n) → ⊥ =
      λ place i. true≢false (sym (is-change k place n i).0 ∙ refused) in
      record { stays = λ place i. absurd (none place i); apart = λ place i j. none place i }

  -- what holds of each of the session's Requests
  pub all-safe : Each (IsSafe opened closed k) (noted_of turns)
  all-safe =
      each-cut (IsSafe opened closed k) (noted_of turns)
      (λ before rest n is. safe before rest n is (is_accepted n) refl)
