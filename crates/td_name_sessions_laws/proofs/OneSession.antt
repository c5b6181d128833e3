-- The accepted changes of one session, and the history that is handed on.
use Rattle.std.proofs.Common.{◌≡◌, inl, inr, ℕ, zero, suc, ◌<◌, ◌≤◌, Bool, true, false, cond, List, [], ◌∷◌, ◌++◌, length}
use Rattle.std.proofs.Common.{Option, None, Some, slice_get, refl, sym, ap, subst, arith}
use Rattle.std.specs.List.{AllByRecursion}
use Rattle.td_cdr.specs.Marks.{In}
use Rattle.td_cell.specs.Lists.{Rises as RisesBy, itself}
use Rattle.td_name_session.proofs.Following.{accepted-stand, own-accepted, points-rise}
use Rattle.td_name_session.specs.Laws.{NeverFalls, Stands, place_by, place_in, places_of}
use Rattle.td_name_session.specs.Scenes.{Scene}
use Rattle.td_name_session.specs.Turns.{ServedRequest, Run, Turn, journal_of, point_in, seen_in}
use Rattle.td_naming.specs.Histories.{Past}
use Rattle.td_naming.specs.declared.history.NameChange.{NameChange}
use Rattle.td_name_sessions_laws.proofs.Times.{in-either, in-first, in-second, rises-both}
use Rattle.td_name_sessions_laws.specs.OneHistory.{MakesAll}
use Rattle.td_shared_names.specs.Acting.{size_of}

-- ---- places and points

accepted-by : (b : Bool) (place : ℕ) (points : List ℕ) → In place (cond b points [])
    → (b ≡ true) × In place points
accepted-by true place points h = (refl, h)
accepted-by false place points h = absurd h

-- a place is that of an accepted Request, and a point that was noted
record IsPlace (r : Option ServedRequest) (points : List ℕ) (place : ℕ) : Type 0 where
  noted : ServedRequest
  request : r ≡ Some noted
  accepted : noted.accepted ≡ true
  point : In place points

is-place : (r : Option ServedRequest) (points : List ℕ) (place : ℕ) → In place (place_by r points) → IsPlace r points place
is-place None points place h = absurd h
is-place (Some n) points place h =
    let a = accepted-by n.accepted place points h in
    record { noted = n; request = refl; accepted = a.0; point = a.1 }

rises-by : (b : Bool) (points : List ℕ) → RisesBy itself points → RisesBy itself (cond b points [])
rises-by true points r = r
rises-by false points r = tt

place-rises : (r : Option ServedRequest) (points : List ℕ) → RisesBy itself points → RisesBy itself (place_by r points)
place-rises None points h = tt
place-rises (Some n) points h = rises-by n.accepted points h

point-rises : (o : Option ℕ) → RisesBy itself (point_in o)
point-rises None = tt
point-rises (Some n) = ((λ y h. absurd h), tt)

only-point : (o : Option ℕ) (point place : ℕ) → o ≡ Some point → In place (point_in o) → place ≡ point
only-point o point place e h = from (subst (λ (p : Option ℕ). In place (point_in p)) e h)
  where
    from : In place (point ∷ []) → place ≡ point
    from (inl i) = i
    from (inr i) = absurd i

-- each place is a point that was noted
noted-there : (place : ℕ) (ts : List Turn) → In place (places_of ts) → In place (journal_of ts)
noted-there place [] h = h
noted-there place (t ∷ ts) h =
    elim (in-either place (place_in t) (places_of ts) h) as (λ _. In place (point_in t.point ++ journal_of ts)) [
      | inl p ↦ in-first place (point_in t.point) (journal_of ts)
          (is-place t.request (point_in t.point) place p).point
      | inr p ↦ in-second place (point_in t.point) (journal_of ts) (noted-there place ts p)
    ]

of-each : (P : ℕ → Type 0) (xs : List ℕ) (x : ℕ) → AllByRecursion P xs → In x xs → P x
of-each P [] x a h = absurd h
of-each P (y ∷ xs) x a (inl e) = subst P (sym e) a.0
of-each P (y ∷ xs) x a (inr h) = of-each P xs x a.1 h

no-lower : (low : ℕ) (xs : List ℕ) (high x : ℕ) → NeverFalls low xs high → In x xs → low ≤ x
no-lower low [] high x r h = absurd h
no-lower low (y ∷ xs) high x r (inl e) = subst (λ (i : ℕ). low ≤ i) (sym e) r.0
no-lower low (y ∷ xs) high x r (inr h) =
    let first = r.0 in let more = no-lower y xs high x r.1 h in omega (arith, first, more)

-- ---- the places of a run rise

-- each accepted change stands, and later points are above it
abbrev AllStand : Scene → List Turn → Type 0
AllStand u ts =
    (before rest : List Turn) (t : Turn) (n : ServedRequest) → ts ≡ before ++ t ∷ rest → t.request ≡ Some n
    → n.accepted ≡ true → Stands u t rest

below : (u : Scene) (t : Turn) (ts : List Turn) (place later : ℕ) → AllStand u (t ∷ ts) → In place (place_in t)
    → In later (places_of ts) → place < later
below u t ts place later stand h i =
    let p = is-place t.request (point_in t.point) place h in
    let s = stand [] ts t p.noted refl p.request p.accepted in
    let at : place ≡ s.point = only-point t.point s.point place s.noted p.point in
    let above : s.point < later =
    of-each (λ (x : ℕ). s.point < x) (journal_of ts) later s.later (noted-there later ts i) in
    omega (arith, at, above)

pub places-rise : (u : Scene) (ts : List Turn) → AllStand u ts → RisesBy itself (places_of ts)
places-rise u [] stand = tt
places-rise u (t ∷ ts) stand =
    rises-both (place_in t) (places_of ts) (place-rises t.request (point_in t.point) (point-rises t.point))
    (places-rise u ts
    (λ before rest x n is. stand (t ∷ before) rest x n (ap (λ (l : List Turn). t ∷ l) is)))
    (λ place later h i. below u t ts place later stand h i)

-- ---- one session

stands-on : (h more : List NameChange) (k : ℕ) (x : NameChange) → slice_get h k ≡ Some x
    → slice_get (h ++ more) k ≡ Some x
stands-on [] more k x e = absurd (let bad : ⊥ = cc in bad)
stands-on (y ∷ h) more zero x e = e
stands-on (y ∷ h) more (suc k) x e = stands-on h more k x e

module _ (others : List NameChange → Type 0) (s u : Scene) (turns : List Turn) (run : Run others s turns u) where
  pub all-stand : AllStand u turns
  all-stand before rest t n is request accepted =
      accepted-stand others s u before rest t n
      (subst (λ (l : List Turn). Run others s l u) is run) request accepted

  pub own-is : u.names.own ≡ s.names.own ++ places_of turns
  own-is = own-accepted others s u turns run

  pub since : (opened : Past) → size_of opened ≤ length s.names.history → (place : ℕ) → In place (places_of turns)
      → size_of opened ≤ place
  since opened low place h =
      let above : length s.names.history ≤ place =
      no-lower (seen_in s) (journal_of turns) (seen_in u) place (points-rise others s u turns run)
      (noted-there place turns h) in
      omega (arith, low, above)

  pub makes-all : (more : List NameChange) → MakesAll (u.names.history ++ more) turns
  makes-all more before rest t n is request accepted =
      let x = all-stand before rest t n is request accepted in
      record {
        point = x.point;
        noted = x.noted;
        change = x.change;
        stands = stands-on u.names.history more x.point x.change x.stands;
        key = x.key;
        act = x.act;
        request = x.request;
        is = x.is;
        judged = x.judged;
        same = x.same;
      }
