-- The points at which queries begin: how many changes were seen of a trader then, which are never fewer than before.
use Rattle.std.proofs.Common.{◌≡◌, ℕ, ◌+◌, ◌≤◌, Bool, true, false, cond, nat_eq, List, [], ◌∷◌}
use Rattle.std.proofs.Common.{Option, None, Some, length, slice_get, slice_set, append-nil, length-append, eqb-true}
use Rattle.std.proofs.Common.{le_refl, refl, sym, ap, subst, ◌∙◌, arith}
use Rattle.std.proofs.lemmas.Bool.{eqb-false}
use Rattle.td_cdr.specs.Marks.{Marks}
use Rattle.td_changes.specs.declared.bounds.Bounds.{Bounds}
use Rattle.td_fed.proofs.Members.{get-set_other, get-set_same}
use Rattle.td_fed.proofs.Rising.{rises-most}
use Rattle.td_fed.specs.Entering.{begin_item}
use Rattle.td_fed.specs.Trails.{Goes, NeverFalls, began, only_of, points_of, stays, watched}
use Rattle.td_ops.specs.declared.call.Query.{Query}
use Rattle.td_register.specs.Causes.{Cause}
use Rattle.td_register.specs.Stores.{Store}
use Rattle.td_register.specs.declared.history.Accepted.{Accepted}
use Rattle.td_store.specs.declared.record.LinkRecord.{LinkRecord}
use Rattle.td_trader.proofs.Begun.{are_passed_on, are_served}
use Rattle.td_trader.specs.Beginning.{after_begin, begin_along, begin_here, begin_of, begin_unless, repeated_in}
use Rattle.td_trader.specs.Beginning.{searched_under}
use Rattle.td_trader.specs.Queries.{parts_of, path_link, refusal}
use Rattle.td_trader.specs.Worlds.{BeginsQuery, Meanwhile, View, Watches, after_begin as seen_after, history_at}
use Rattle.td_trader.specs.Worlds.{history_in, store_seen}
use Rattle.td_trader.specs.declared.begin.Begin.TheVariants as begin
use Rattle.td_trader.specs.declared.begin.Begin.{Begin}

-- one of them is seen otherwise, and was called at these points
pub put-rise : (w : List View) (k : ℕ) (v x : View) (points : List ℕ) → slice_get w k ≡ Some v
    → NeverFalls (length v.history) points (length x.history) → (j : ℕ)
    → NeverFalls (length (history_at w j)) (only_of k points j) (length (history_at (slice_set w k x) j))
put-rise w k v x points is rise j = by-trader (nat_eq k j) refl
  where
    by-trader : (b : Bool) → nat_eq k j ≡ b
        → NeverFalls (length (history_at w j)) (cond (nat_eq k j) points []) (length (history_at (slice_set w k x) j))
    by-trader true at_k =
        let one : k ≡ j = eqb-true k j at_k in
        let there : slice_get (slice_set w k x) j ≡ Some x =
        subst (λ (n : ℕ). slice_get (slice_set w k x) n ≡ Some x) one (get-set_same w k v x is) in
        let before : slice_get w j ≡ Some v = subst (λ (n : ℕ). slice_get w n ≡ Some v) one is in
        subst (λ (b : Bool). NeverFalls (length (history_at w j)) (cond b points [])
        (length (history_at (slice_set w k x) j))) (sym at_k)
        (subst (λ (o : Option View). NeverFalls (length (history_in o)) points
        (length (history_at (slice_set w k x) j))) (sym before)
        (subst (λ (o : Option View). NeverFalls (length v.history) points (length (history_in o))) (sym there) rise))
    by-trader false other =
        let same : slice_get (slice_set w k x) j ≡ slice_get w j = get-set_other w k j x (eqb-false k j other) in
        subst (λ (b : Bool). NeverFalls (length (history_at w j)) (cond b points [])
        (length (history_at (slice_set w k x) j))) (sym other)
        (subst (λ (o : Option View). length (history_at w j) ≤ length (history_in o)) (sym same)
        (le_refl (length (history_at w j))))

-- ---- the point of a query that begins

-- the point that it began with is this one
abbrev IsAt : (point : ℕ) → Begin → Type 0
IsAt point (begin.Refused o) = Unit {0}
IsAt point (begin.Repeat number) = Unit {0}
IsAt point (begin.Search l) = l.point ≡ point
IsAt point (begin.Path l) = l.point ≡ point

module _ (bounds : Bounds) (s : Store) (point : ℕ) (m : Marks) (q : Query) where
  here-at : (found : Option ℕ) → IsAt point (begin_here s point m q found)
  here-at (Some number) = tt
  here-at None =
      (are_served s point (m.count + 1) (searched_under s m q).identifier q).served.point_is

  along-at : (found : Option LinkRecord) → IsAt point (begin_along s point m q found)
  along-at (Some link) = (are_passed_on s point link q).served.point_is
  along-at None = here-at (repeated_in m (parts_of q).stated)

  unless-at : (cause : Cause) → IsAt point (begin_unless cause s point m q)
  unless-at (Some f) = tt
  unless-at None = along-at (path_link s.links (parts_of q).stated)

  begins-at : (b : Begin) → b ≡ begin_of bounds s point m q → IsAt point b
  unfolding begin_of
  begins-at b e = subst (IsAt point) (sym e) (unless-at (refusal bounds m.count s q))

item-points : (k point : ℕ) (b : Begin) → IsAt point b → (j : ℕ)
    → only_of k (point ∷ []) j ≡ points_of j (begin_item k point b ∷ [])
item-points k point (begin.Refused o) at_point j = sym (append-nil (only_of k (point ∷ []) j))
item-points k point (begin.Repeat number) at_point j = sym (append-nil (only_of k (point ∷ []) j))
item-points k point (begin.Search l) at_point j =
    ap (λ (n : ℕ). only_of k (n ∷ []) j) (sym at_point) ∙ sym (append-nil (only_of k (l.point ∷ []) j))
item-points k point (begin.Path l) at_point j =
    ap (λ (n : ℕ). only_of k (n ∷ []) j) (sym at_point) ∙ sym (append-nil (only_of k (l.point ∷ []) j))

module _ (others : List Accepted → Type 0) (later : Marks → Marks → Type 0) (w : List View) (k : ℕ) where
  meanwhile-length : (seen : View) → (m : Meanwhile others later w k seen)
      → length m.view.history ≤ length seen.history
  meanwhile-length seen m =
      let size : length seen.history ≡ length m.view.history + length m.between =
      ap (λ (v : View). length v.history) m.seen_is ∙ length-append m.view.history m.between in
      omega (arith, size)

  -- the item of a query that begins shows how many changes are seen behind it
  pub begun-rise : (q : Query) (b : Begin) (u : List View) → BeginsQuery others later w k q b u → (point : ℕ)
      → point ≡ length (history_at u k) → (j : ℕ)
      → NeverFalls (length (history_at w j)) (points_of j (begin_item k point b ∷ [])) (length (history_at u j))
  begun-rise q b u h point at_point j =
      let m = h.meanwhile in
      let seen = h.seen in
      let x = seen_after seen (after_begin (store_seen seen) seen.marks q b) in
      let i = begin_item k point b in
      let there : length (history_at u k) ≡ length seen.history =
      ap (λ (y : List View). length (history_at y k)) h.world
      ∙ ap (λ (o : Option View). length (history_in o)) (get-set_same w k m.view x m.is) in
      let here : point ≡ length seen.history = at_point ∙ there in
      let fits : IsAt point b =
      subst (λ (n : ℕ). IsAt n b) (sym here)
      (begins-at seen.bounds (store_seen seen) (length seen.history) seen.marks q b h.begin) in
      subst (λ (y : List View). NeverFalls (length (history_at w j)) (points_of j (i ∷ [])) (length (history_at y j)))
      (sym h.world)
      (subst (λ (t : List ℕ). NeverFalls (length (history_at w j)) t (length (history_at (slice_set w k x) j)))
      (item-points k point b fits j)
      (put-rise w k m.view x (point ∷ []) m.is
      (subst (λ (n : ℕ). NeverFalls (length m.view.history) (n ∷ []) (length seen.history)) (sym here)
      (meanwhile-length seen m, le_refl (length seen.history))) j))

  pub watched-length : (u : List View) → Watches others later w k u → (j : ℕ)
      → length (history_at w j) ≤ length (history_at u j)
  watched-length u h j =
      let m = h.meanwhile in
      subst (λ (y : List View). length (history_at w j) ≤ length (history_at y j)) (sym h.world)
      (rises-most (length (history_at w j)) (only_of k [] j) (length (history_at (slice_set w k h.seen) j))
      (put-rise w k m.view h.seen [] m.is (meanwhile-length h.seen m) j))

-- where queries only began, no fewer changes are seen of any trader
pub goes-length : (others : List Accepted → Type 0) (later : Marks → Marks → Type 0) {w v : List View}
    → Goes others later w v → (j : ℕ) → length (history_at w j) ≤ length (history_at v j)
goes-length others later (stays {w = w}) j = le_refl (length (history_at w j))
goes-length others later (began {w = w} {u = u} {v = v} k q b h more) j =
    let point = length (history_at u k) in
    let first =
    rises-most (length (history_at w j)) (points_of j (begin_item k point b ∷ [])) (length (history_at u j))
    (begun-rise others later w k q b u h point refl j) in
    let rest = goes-length others later more j in
    omega (arith, first, rest)
goes-length others later (watched {w = w} {u = u} {v = v} k h more) j =
    let first = watched-length others later w k u h j in
    let rest = goes-length others later more j in
    omega (arith, first, rest)
