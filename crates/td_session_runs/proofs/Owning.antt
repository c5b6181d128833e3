-- A group that one session has alone: every place of its histories is the session's own.
use Rattle.std.proofs.Common.{◌≡◌, ℕ, zero, suc, ◌+◌, List, [], ◌∷◌, ◌++◌, length, map, Option, None, Some, slice_get}
use Rattle.std.proofs.Common.{refl, sym, ap, subst, ◌∙◌, arith}
use Rattle.td_fed.specs.Trails.{own_at}
use Rattle.td_register.specs.declared.history.Accepted.{Accepted}
use Rattle.td_trader.specs.PlainTraders.{PlainTrader}
use Rattle.td_trader.specs.Solos.{no_changes, places, solo_view, same_marks}
use Rattle.td_trader.specs.Worlds.{View, history_at, history_in}
use Rattle.td_session_runs.proofs.Growing.{length-none, none-length}
use Rattle.td_session_runs.proofs.Running.{own-accepted, seen-legal}
use Rattle.td_session_runs.specs.Journals.{all_places_in}
use Rattle.td_session_runs.specs.Laws.{AloneGrowsByOwn, GrowsByOwn}
use Rattle.td_session_runs.specs.Seen.{AllGrow}
use Rattle.td_session_runs.specs.Turns.{ServedRequest, noted_of}

own-alone : (ts : List PlainTrader) (k : ℕ)
    → own_at (map solo_view ts) k ≡ places 0 (history_at (map solo_view ts) k)
own-alone [] k = refl
own-alone (t ∷ ts) zero = refl
own-alone (t ∷ ts) (suc k) = own-alone ts k

alone : (w : List View) (ts : List PlainTrader) → w ≡ map solo_view ts → (k : ℕ)
    → own_at w k ≡ places 0 (history_at w k)
alone w ts is k = subst (λ (x : List View). own_at x k ≡ places 0 (history_at x k)) (sym is) (own-alone ts k)

places-append : (n : ℕ) (h more : List Accepted) → places n (h ++ more) ≡ places n h ++ places (n + length h) more
places-append n [] more = let e : n ≡ n + 0 = omega arith in ap (λ (i : ℕ). places i more) e
places-append n (x ∷ h) more =
    let e : n + 1 + length h ≡ n + length (x ∷ h) = omega arith in
    ap (λ (t : List ℕ). n ∷ t) (places-append (n + 1) h more)
    ∙ ap (λ (i : ℕ). n ∷ (places (n + 1) h ++ places i more)) e

-- one front is taken away
behind-front : (xs ys zs : List ℕ) → xs ++ ys ≡ xs ++ zs → ys ≡ zs
behind-front [] ys zs e = e
behind-front (x ∷ xs) ys zs e = behind-front xs ys zs (let rest : xs ++ ys ≡ xs ++ zs = cc in rest)

module _ (w u : List View) (k : ℕ) (ns : List ServedRequest) (own_before : own_at w k ≡ places 0 (history_at w k))
    (own_behind : own_at u k ≡ places 0 (history_at u k)) (own : own_at u k ≡ own_at w k ++ all_places_in k ns) where
  by-more : (more : List Accepted) → history_at u k ≡ history_at w k ++ more → GrowsByOwn w u k ns
  by-more more is = record {
    more = more;
    history = is;
    accepted =
        behind-front (places 0 (history_at w k)) (all_places_in k ns) (places (length (history_at w k)) more)
        (ap (λ (t : List ℕ). t ++ all_places_in k ns) (sym own_before)
        ∙ (sym own
        ∙ (own_behind
        ∙ (ap (λ (h : List Accepted). places 0 h) is
        ∙ (places-append 0 (history_at w k) more
        ∙ (let e : 0 + length (history_at w k) ≡ length (history_at w k) = omega arith in
        ap (λ (i : ℕ). places 0 (history_at w k) ++ places i more) e))))));
  }

  by-view : AllGrow w u → (o : Option View) → slice_get w k ≡ o → GrowsByOwn w u k ns
  by-view g (Some v) is =
      let there = g.each k v is in
      by-more there.grows.more
      (ap history_in there.is
      ∙ (there.grows.history ∙ ap (λ (o : Option View). history_in o ++ there.grows.more) (sym is)))
  by-view g None is =
      let few = length-none w k is in
      let count = g.count in
      let gone : slice_get u k ≡ None = none-length u k (omega (arith, few, count)) in
      by-more [] (ap history_in gone ∙ ap (λ (o : Option View). history_in o ++ []) (sym is))

pub alone-grows : AloneGrowsByOwn
alone-grows home s u ts before after run was is k =
    by-view s.world u.world k (noted_of ts) (alone s.world before was k) (alone u.world after is k)
    (own-accepted no_changes same_marks home s u ts run k) (seen-legal no_changes same_marks home s u ts run).grow
    (slice_get s.world k) refl
