-- What one call leaves of a group of traders: what is seen grows, with so many places and marks more that are one's
-- own, and the call came at these points.
use Rattle.std.proofs.Common.{◌≡◌, ℕ, Bool, true, false, cond, nat_eq, List, [], ◌∷◌, ◌++◌, length}
use Rattle.std.proofs.Common.{Option, Some, slice_get, slice_set, append_assoc, append-nil, eqb-true, le_refl}
use Rattle.std.proofs.Common.{refl, sym, ap, subst, ◌∙◌}
use Rattle.std.proofs.lemmas.Bool.{eqb-false}
use Rattle.td_cdr.specs.Marks.{Marks}
use Rattle.td_changes.proofs.Extending.{stands-last}
use Rattle.td_changes.specs.Histories.{StandsAt, is_done}
use Rattle.td_fed.proofs.Entered.{shown-begun}
use Rattle.td_fed.proofs.Members.{get-set_other, get-set_same}
use Rattle.td_fed.proofs.Points.{begun-rise, put-rise}
use Rattle.td_fed.proofs.Rising.{rises-on}
use Rattle.td_fed.specs.Entering.{begin_item}
use Rattle.td_fed.specs.Trails.{NeverFalls, marks_of, only_of, own_at, own_in, own_marks_at, own_marks_in, points_of}
use Rattle.td_ops.specs.declared.call.Change.{Change}
use Rattle.td_ops.specs.declared.call.Query.{Query}
use Rattle.td_ops.specs.declared.outcome.Outcome.TheVariants.{Done, User, System}
use Rattle.td_ops.specs.declared.outcome.Outcome.{Outcome}
use Rattle.td_ops.specs.declared.outcome.Reply.{Reply}
use Rattle.td_register.specs.Entries.{entry}
use Rattle.td_register.specs.declared.history.Accepted.{Accepted}
use Rattle.td_trader.specs.Beginning.{after_begin}
use Rattle.td_trader.specs.Worlds.{BeginsQuery, ChangesTrader, Meanwhile, View, after_begin as seen_after}
use Rattle.td_trader.specs.Worlds.{after_own, history_at, history_in, store_seen, with_view}
use Rattle.td_trader.specs.declared.begin.Begin.{Begin}
use Rattle.td_session_runs.proofs.Growing.{grow-length, grow-none, grow-on, grows-as, grows-length}
use Rattle.td_session_runs.proofs.Growing.{grows-on, grows-others, grows-own, put-grow}
use Rattle.td_session_runs.specs.Seen.{AllGrow, GrowsLegally}
use Rattle.td_walk.specs.declared.trace.TraceItem.{TraceItem}

-- at each trader: one's own places and marks that came, and the points of the calls
pub record Moves (w u : List View) (places marks points : ℕ → List ℕ) : Type 0 where
  pub grow : AllGrow w u
  pub own : (k : ℕ) → own_at u k ≡ own_at w k ++ places k
  pub own_marks : (k : ℕ) → own_marks_at u k ≡ own_marks_at w k ++ marks k
  pub rise : (k : ℕ) → NeverFalls (length (history_at w k)) (points k) (length (history_at u k))

abbrev pub none : ℕ → List ℕ
none k = []

pub moves-none : (w : List View) → Moves w w none none none
moves-none w = record {
  grow = grow-none w;
  own = λ k. sym (append-nil (own_at w k));
  own_marks = λ k. sym (append-nil (own_marks_at w k));
  rise = λ k. le_refl (length (history_at w k));
}

-- one after the other
pub moves-on : (w x u : List View) (a b c p q r : ℕ → List ℕ) → Moves w x a b c → Moves x u p q r
    → Moves w u (λ k. a k ++ p k) (λ k. b k ++ q k) (λ k. c k ++ r k)
moves-on w x u a b c p q r m n = record {
  grow = grow-on w x u m.grow n.grow;
  own = λ k.
      n.own k ∙ (ap (λ (t : List ℕ). t ++ p k) (m.own k) ∙ append_assoc (own_at w k) (a k) (p k));
  own_marks = λ k.
      n.own_marks k
      ∙ (ap (λ (t : List ℕ). t ++ q k) (m.own_marks k) ∙ append_assoc (own_marks_at w k) (b k) (q k));
  rise = λ k.
      rises-on (length (history_at w k)) (c k) (length (history_at x k)) (r k) (length (history_at u k)) (m.rise k)
      (n.rise k);
}

-- the same, told otherwise
pub moves-as : (w u : List View) (a b c p q r : ℕ → List ℕ) → Moves w u a b c → ((k : ℕ) → a k ≡ p k)
    → ((k : ℕ) → b k ≡ q k) → ((k : ℕ) → c k ≡ r k) → Moves w u p q r
moves-as w u a b c p q r m own marks points = record {
  grow = m.grow;
  own = λ k. m.own k ∙ ap (λ (t : List ℕ). own_at w k ++ t) (own k);
  own_marks = λ k. m.own_marks k ∙ ap (λ (t : List ℕ). own_marks_at w k ++ t) (marks k);
  rise = λ k.
      subst (λ (t : List ℕ). NeverFalls (length (history_at w k)) t (length (history_at u k))) (points k) (m.rise k);
}

-- without the points
pub moves-quiet : (w u : List View) (a b c : ℕ → List ℕ) → Moves w u a b c → Moves w u a b none
moves-quiet w u a b c m = record {
  grow = m.grow;
  own = m.own;
  own_marks = m.own_marks;
  rise = λ k. grow-length w u m.grow k;
}

-- ---- one trader is seen otherwise

pub no-more : (b : Bool) → ◌≡◌ {A = List ℕ} (cond b [] []) []
no-more true = refl
no-more false = refl

put-list : (f : Option View → List ℕ) (w : List View) (k : ℕ) (v x : View) (more : List ℕ) → slice_get w k ≡ Some v
    → f (Some x) ≡ f (Some v) ++ more → (j : ℕ)
    → f (slice_get (slice_set w k x) j) ≡ f (slice_get w j) ++ only_of k more j
put-list f w k v x more is e j = by-trader (nat_eq k j) refl
  where
    by-trader : (b : Bool) → nat_eq k j ≡ b
        → f (slice_get (slice_set w k x) j) ≡ f (slice_get w j) ++ cond (nat_eq k j) more []
    by-trader true at_k =
        let one : k ≡ j = eqb-true k j at_k in
        let there : slice_get (slice_set w k x) j ≡ Some x =
        subst (λ (n : ℕ). slice_get (slice_set w k x) n ≡ Some x) one (get-set_same w k v x is) in
        let before : slice_get w j ≡ Some v = subst (λ (n : ℕ). slice_get w n ≡ Some v) one is in
        ap f there
        ∙ (e ∙ (ap (λ (o : Option View). f o ++ more) (sym before)
        ∙ ap (λ (b : Bool). f (slice_get w j) ++ cond b more []) (sym at_k)))
    by-trader false other =
        ap f (get-set_other w k j x (eqb-false k j other))
        ∙ (sym (append-nil (f (slice_get w j)))
        ∙ ap (λ (b : Bool). f (slice_get w j) ++ cond b more []) (sym other))

pub put-moves : (w : List View) (k : ℕ) (v x : View) (places marks points : List ℕ) → slice_get w k ≡ Some v
    → GrowsLegally v x → x.own ≡ v.own ++ places → x.own_marks ≡ v.own_marks ++ marks
    → NeverFalls (length v.history) points (length x.history)
    → Moves w (slice_set w k x) (only_of k places) (only_of k marks) (only_of k points)
put-moves w k v x places marks points is g own own_marks rise = record {
  grow = put-grow w k v x is g;
  own = put-list own_in w k v x places is own;
  own_marks = put-list own_marks_in w k v x marks is own_marks;
  rise = put-rise w k v x points is rise;
}

-- ---- the calls of a group

module _ (others : List Accepted → Type 0) (later : Marks → Marks → Type 0) (w : List View) (k : ℕ) where
  meanwhile-grows : (seen : View) → (m : Meanwhile others later w k seen) → GrowsLegally m.view seen
  meanwhile-grows seen m =
      subst (GrowsLegally m.view) (sym m.seen_is) (grows-others m.view m.between m.marks m.legal)

  -- one's own of it stays
  meanwhile-own : (seen : View) → (m : Meanwhile others later w k seen) → seen.own ≡ m.view.own ++ []
  meanwhile-own seen m = ap (λ (v : View). v.own) m.seen_is ∙ sym (append-nil m.view.own)

  meanwhile-marks : (seen : View) → (m : Meanwhile others later w k seen) → seen.own_marks ≡ m.view.own_marks ++ []
  meanwhile-marks seen m = ap (λ (v : View). v.own_marks) m.seen_is ∙ sym (append-nil m.view.own_marks)

  -- what is seen of it then stands there
  pub seen-length : (seen x : View) → (m : Meanwhile others later w k seen) → (u : List View) → u ≡ with_view w k x
      → length (history_at u k) ≡ length x.history
  seen-length seen x m u is =
      ap (λ (y : List View). length (history_at y k)) is
      ∙ ap (λ (o : Option View). length (history_in o)) (get-set_same w k m.view x m.is)

  -- nothing was done but by others
  pub seen-moves : (u : List View) (seen : View) → Meanwhile others later w k seen → u ≡ with_view w k seen
      → Moves w u none none (only_of k (length (history_at u k) ∷ []))
  seen-moves u seen m is =
      let point : length (history_at u k) ≡ length seen.history = seen-length seen seen m u is in
      let grows = meanwhile-grows seen m in
      let moves : Moves w (slice_set w k seen) (only_of k []) (only_of k []) (only_of k (length seen.history ∷ [])) =
      put-moves w k m.view seen [] [] (length seen.history ∷ []) m.is grows (meanwhile-own seen m)
      (meanwhile-marks seen m) (grows-length m.view seen grows, le_refl (length seen.history)) in
      subst (λ (y : List View). Moves w y none none (only_of k (length (history_at u k) ∷ []))) (sym is)
      (moves-as w (slice_set w k seen) (only_of k []) (only_of k []) (only_of k (length seen.history ∷ [])) none none
      (only_of k (length (history_at u k) ∷ [])) moves (λ j. no-more (nat_eq k j)) (λ j. no-more (nat_eq k j))
      (λ j. ap (λ (n : ℕ). only_of k (n ∷ []) j) (sym point)))

  -- ---- a change

  -- its place, where it was accepted
  abbrev pub placed : Outcome → (point : ℕ) → List ℕ
  placed o point = cond (is_done o) (point ∷ []) []

  own-after : (v : View) (c : Change) (o : Outcome) → (after_own v c o).own ≡ v.own ++ placed o (length v.history)
  own-after v c (Done content) = refl
  own-after v c (User e) = sym (append-nil v.own)
  own-after v c (System kind minor completion) = sym (append-nil v.own)

  marks-after : (v : View) (c : Change) (o : Outcome) → (after_own v c o).own_marks ≡ v.own_marks ++ []
  marks-after v c (Done content) = sym (append-nil v.own_marks)
  marks-after v c (User e) = sym (append-nil v.own_marks)
  marks-after v c (System kind minor completion) = sym (append-nil v.own_marks)

  pub changes-move : (c : Change) (o : Outcome) (u : List View) → (h : ChangesTrader others later w k c o u)
      → Moves w u (only_of k (placed o (length h.seen.history))) none (only_of k (length h.seen.history ∷ []))
  changes-move c o u h =
      let m = h.meanwhile in
      let seen = h.seen in
      let x = after_own seen c o in
      let before = meanwhile-grows seen m in
      let own = grows-own seen c o h.outcome in
      let point = length seen.history in
      let moves : Moves w (slice_set w k x) (only_of k (placed o point)) (only_of k []) (only_of k (point ∷ [])) =
      put-moves w k m.view x (placed o point) [] (point ∷ []) m.is (grows-on m.view seen x before own)
      (own-after seen c o ∙ ap (λ (v : View). v.own ++ placed o point) m.seen_is)
      (marks-after seen c o ∙ ap (λ (v : View). v.own_marks ++ []) m.seen_is)
      (grows-length m.view seen before, grows-length seen x own) in
      subst (λ (y : List View). Moves w y (only_of k (placed o point)) none (only_of k (point ∷ []))) (sym h.world)
      (moves-as w (slice_set w k x) (only_of k (placed o point)) (only_of k []) (only_of k (point ∷ []))
      (only_of k (placed o point)) none (only_of k (point ∷ [])) moves (λ j. refl) (λ j. no-more (nat_eq k j))
      (λ j. refl))

  stands-after : (v : View) (c : Change) (o : Outcome) (content : Reply) → o ≡ Done content
      → StandsAt (after_own v c o).history (length v.history) c content
  stands-after v c (Done reply) content e =
      let same : reply ≡ content = cc in
      stands-last v.history (entry c reply) ∙ ap (λ (t : Reply). Some (entry c t)) same
  stands-after v c (User x) content e = absurd (let bad : ⊥ = cc in bad)
  stands-after v c (System kind minor completion) content e = absurd (let bad : ⊥ = cc in bad)

  -- an accepted one stands at its point
  pub changes-stand : (c : Change) (o : Outcome) (u : List View) → (h : ChangesTrader others later w k c o u)
      → (content : Reply) → o ≡ Done content → StandsAt (history_at u k) (length h.seen.history) c content
  changes-stand c o u h content e =
      let x = after_own h.seen c o in
      let there : history_at u k ≡ x.history =
      ap (λ (y : List View). history_at y k) h.world
      ∙ ap history_in (get-set_same w k h.meanwhile.view x h.meanwhile.is) in
      subst (λ (y : List Accepted). StandsAt y (length h.seen.history) c content) (sym there)
      (stands-after h.seen c o content e)

-- ---- a query that begins

module _ (others : List Accepted → Type 0) (later : Marks → Marks → Type 0) (w : List View) (k : ℕ) where
  pub begun-moves : (q : Query) (b : Begin) (u : List View) → BeginsQuery others later w k q b u → (point : ℕ)
      → point ≡ length (history_at u k)
      → Moves w u none (λ j. marks_of j (begin_item k point b ∷ [])) (λ j. points_of j (begin_item k point b ∷ []))
  begun-moves q b u h point at_point =
      let m = h.meanwhile in
      let seen = h.seen in
      let x = seen_after seen (after_begin (store_seen seen) seen.marks q b) in
      let i = begin_item k point b in
      let before : GrowsLegally m.view x =
      grows-as m.view seen x (meanwhile-grows others later w k seen m) refl refl refl refl in
      let shown = shown-begun others later w u k point q b [] [] (i ∷ []) h at_point refl refl in
      record {
        grow = subst (AllGrow w) (sym h.world) (put-grow w k m.view x m.is before);
        own = λ j.
            ap (λ (y : List View). own_at y j) h.world
            ∙ (put-list own_in w k m.view x [] m.is (meanwhile-own others later w k seen m) j
            ∙ ap (λ (t : List ℕ). own_at w j ++ t) (no-more (nat_eq k j)));
        own_marks = λ j.
            shown.marks j ∙ ap (λ (t : List TraceItem). own_marks_at w j ++ marks_of j t) (sym shown.notes);
        rise = begun-rise others later w k q b u h point at_point;
      }
