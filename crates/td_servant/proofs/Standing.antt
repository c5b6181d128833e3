-- Where changes stand, and what changes nothing.
use Rattle.std.proofs.Common.{◌≡◌, ℕ, ◌≤◌, false, List, [], ◌∷◌, ◌++◌, length, refl, sym, ap}
use Rattle.std.proofs.Common.{subst, ◌∙◌, arith, length-append}
use Rattle.td_cdr.specs.Marks.{Marks}
use Rattle.td_changes.proofs.Extending.{stands-last}
use Rattle.td_changes.specs.Histories.{StandsAt, is_done}
use Rattle.td_ops.specs.declared.call.Change.{Change}
use Rattle.td_ops.specs.declared.outcome.Outcome.{Outcome}
use Rattle.td_ops.specs.declared.outcome.Outcome.TheVariants.{Done, User, System}
use Rattle.td_register.specs.Entries.{entry}
use Rattle.td_register.specs.declared.history.Accepted.{Accepted}
use Rattle.td_trader.specs.Worlds.{ChangesTrader, Meanwhile, View, Watches, after_own, history_at, history_in}
use Rattle.td_trader.specs.Worlds.{with_view}
use Rattle.td_servant.proofs.Seen.{history_behind}
use Rattle.td_servant.specs.Laws.{ChangesStand, LooksChangeNothing, PointsAreSeen, RefusalsChangeNothing}
use Rattle.td_servant.specs.declared.entry.Entry.TheVariants.{Point}

same_point : (k m n : ℕ) → Point k m ≡ Point k n → m ≡ n
same_point k m n e = cc

own_same : (v : View) (c : Change) (o : Outcome) → is_done o ≡ false → after_own v c o ≡ v
own_same v c (Done content) e = absurd cc
own_same v c (User f) e = refl
own_same v c (System kind minor completion) e = refl

own_longer : (v : View) (c : Change) (o : Outcome) → length v.history ≤ length (after_own v c o).history
own_longer v c (Done content) = omega (arith, length-append v.history (entry c content ∷ []))
own_longer v c (User f) = omega arith
own_longer v c (System kind minor completion) = omega arith

module _ (others : List Accepted → Type 0) (later : Marks → Marks → Type 0) where
  -- the history behind the change
  history_then : (w u : List View) (k : ℕ) (c : Change) (o : Outcome) (r : ChangesTrader others later w k c o u)
      → history_at u k ≡ (after_own r.seen c o).history
  history_then w u k c o r =
      history_behind w u k r.meanwhile.view (after_own r.seen c o) r.meanwhile.is r.world

  pub stand : ChangesStand others later
  stand w u k c content point r =
      let seen = r.changes.seen in
      let at : point ≡ length seen.history = same_point k point (length seen.history) r.noted in
      let behind : history_at u k ≡ seen.history ++ entry c content ∷ [] = history_then w u k c (Done content) r.changes in
      subst (λ (n : ℕ). StandsAt (history_at u k) n c content) (sym at)
      (subst (λ (h : List Accepted). StandsAt h (length seen.history) c content) (sym behind)
      (stands-last seen.history (entry c content)))

  seen_longer : (w : List View) (k : ℕ) (seen : View) (m : Meanwhile others later w k seen)
      → length (history_at w k) ≤ length seen.history
  seen_longer w k seen m =
      let before : history_at w k ≡ m.view.history = ap history_in m.is in
      let now : seen.history ≡ m.view.history ++ m.between = ap (λ (v : View). v.history) m.seen_is in
      let one = ap (λ (h : List Accepted). length h) before in
      let two = ap (λ (h : List Accepted). length h) now in
      omega (arith, one, two, length-append m.view.history m.between)

  pub seen : PointsAreSeen others later
  seen w u k c o point r =
      let at : point ≡ length r.changes.seen.history =
      same_point k point (length r.changes.seen.history) r.noted in
      let low = seen_longer w k r.changes.seen r.changes.meanwhile in
      let high = own_longer r.changes.seen c o in
      let then = ap (λ (h : List Accepted). length h) (history_then w u k c o r.changes) in
      (omega (arith, at, low), omega (arith, at, high, then))

  pub refused : (w u : List View) (k : ℕ) (c : Change) (o : Outcome) → ChangesTrader others later w k c o u
      → is_done o ≡ false → Watches others later w k u
  refused w u k c o r undone = record {
    seen = r.seen;
    meanwhile = r.meanwhile;
    world = r.world ∙ ap (with_view w k) (own_same r.seen c o undone);
  }

  pub refusals : RefusalsChangeNothing others later
  refusals w u k c o e r undone = refused w u k c o r.changes undone

  pub looks : LooksChangeNothing others later
  looks home w u d after k l draft o e r =
      record { seen = r.looks.seen; meanwhile = r.looks.meanwhile; world = r.looks.world }
