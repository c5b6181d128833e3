-- What a turn of a cell is to one who sees the trader through a pass.
use Rattle.std.proofs.Common.{◌≡◌, ℕ, ◌+◌, ◌<◌, List, [], ◌∷◌, ◌++◌, map, length, slice_set, slice_index_or, Some, None}
use Rattle.std.proofs.Common.{IsSome, Option, Bool, true, false, cond, nat_lt, refl, sym, ◌∙◌, ap, subst, zero-add}
use Rattle.std.proofs.lemmas.Bool.{false≢true}
use Rattle.std.proofs.lemmas.List.{map-append, map-set}
use Rattle.td_cdr.specs.Marks.{Marks}
use Rattle.td_register.specs.Stores.{Store}
use Rattle.td_register.specs.declared.history.Accepted.{Accepted}
use Rattle.td_changes.specs.Histories.{Legal, LegalFrom}
use Rattle.td_changes.specs.declared.bounds.Bounds.{Bounds}
use Rattle.td_cell.specs.Lists.{with_place}
use Rattle.td_cell.specs.OwnMarks.{mark_between, marks_between, number_of}
use Rattle.td_cell.specs.Rules.{Before, ActsOnce, after_turn}
use Rattle.td_cell.specs.declared.pass.View.{View as Knowledge}
use Rattle.td_cell.proofs.Chains.{just}
use Rattle.td_trader.specs.Following.{Follows, FollowsWritably}
use Rattle.td_trader.specs.PlainTraders.{HasShortReplies, PlainTrader, store_of}
use Rattle.td_trader.specs.Worlds.{View, after_others, number_between, view_of}
use Rattle.td_trader.proofs.Growing.{legal-append, writable-on}
use Rattle.td_group.specs.Acting.{TraderActs}
use Rattle.td_group.specs.BookLaws.{acts_follow}
use Rattle.td_group.specs.Grouping.{marks_of, size_of}
use Rattle.td_group.specs.Seeing.{TurnAt, the_one, view_by}
use Rattle.td_group.specs.Soundness.{IsLegalTrader}
use Rattle.td_group.specs.declared.shared_trader.Act.{Act}
use Rattle.td_group.specs.declared.shared_trader.Reply.{Reply}
use Rattle.td_group.proofs.RowLaws.{got}

-- ---- what is in an option

pub some_one : {A : Type 0} (o : Option A) (h : IsSome o) → o ≡ Some (the_one o h)
some_one None h = absurd (false≢true h)
some_one (Some a) h = refl

pub one_is : {A : Type 0} (o : Option A) (h : IsSome o) (a : A) → o ≡ Some a → the_one o h ≡ a
one_is None h a e = absurd (false≢true h)
one_is (Some b) h a e = just b a e

pub before_one : (o : Option PlainTrader) (h : IsSome o) (t : PlainTrader) → Before FollowsWritably o t
    → FollowsWritably (the_one o h) t
before_one None h t b = absurd (false≢true h)
before_one (Some a) h t b = b

-- ---- legal histories

legal-on : (t u : PlainTrader) → Follows t u → Legal t.bounds t.opening t.history
    → Legal u.bounds u.opening u.history
legal-on t u f l =
    let more : LegalFrom t.bounds (0 + length t.history) (store_of t) f.more = subst (λ (n : ℕ). LegalFrom t.bounds n
    (store_of t) f.more) (sym (zero-add (length t.history))) f.legal in
    let all : Legal t.bounds t.opening (t.history ++ f.more) = legal-append t.bounds 0 t.opening t.history f.more l
    more in
    let here : Legal t.bounds t.opening u.history = subst (Legal t.bounds t.opening) (sym f.history) all in
    let from : Legal t.bounds u.opening u.history = subst (λ (s : Store). Legal t.bounds s u.history) (sym f.opening)
    here in
    subst (λ (b : Bounds). Legal b u.opening u.history) (sym f.bounds) from

pub sound_on : (t u : PlainTrader) → Follows t u → IsLegalTrader t → IsLegalTrader u
sound_on t u f s = (legal-on t u f s.0, subst HasShortReplies (sym f.opening) s.1)

-- ---- a turn

numbers-between : (m n : Marks) → map number_of (marks_between m n) ≡ number_between m n
numbers-between m n = from (nat_lt m.count n.count)
  where
    from : (b : Bool) → map number_of (cond b (mark_between m n ∷ []) []) ≡ cond b (n.count ∷ []) []
    from true = refl
    from false = refl

abbrev view : List ℕ → Store → Bounds → List Accepted → Marks → List ℕ → List ℕ → View
view name opening bounds history marks own own_marks = record {
  name = name;
  opening = opening;
  bounds = bounds;
  history = history;
  marks = marks;
  own = own;
  own_marks = own_marks;
}

-- what others have made of a trader that is seen
others-seen : (t u : PlainTrader) (f : Follows t u) (own own_marks : List ℕ) →
    after_others (view_of t own own_marks) f.more u.marks ≡ view_of u own own_marks
others-seen t u f own own_marks =
    ap (λ (n : List ℕ). view n t.opening t.bounds (t.history ++ f.more) u.marks own own_marks) (sym f.name)
    ∙ (ap (λ (s : Store). view u.name s t.bounds (t.history ++ f.more) u.marks own own_marks) (sym f.opening)
    ∙ (ap (λ (b : Bounds). view u.name u.opening b (t.history ++ f.more) u.marks own own_marks) (sym f.bounds)
    ∙ ap (λ (h : List Accepted). view u.name u.opening u.bounds h u.marks own own_marks) (sym f.history)))

view-is : (w x : Knowledge PlainTrader) (h : IsSome w.seen) (t : PlainTrader) → w ≡ x → x.seen ≡ Some t →
    view_by w h ≡ view_of t x.own (map number_of x.own_marks)
view-is w x h t e s =
    ap (λ (y : PlainTrader). view_of y w.own (map number_of w.own_marks)) (one_is w.seen h t (ap (λ (y : Knowledge
    PlainTrader). y.seen) e ∙ s))
    ∙ ap (λ (y : Knowledge PlainTrader). view_of t y.own (map number_of y.own_marks)) e

module _ (v w : Knowledge PlainTrader) (hv : IsSome v.seen) (hw : IsSome w.seen) (a : Act) (r : Reply)
    (t : ActsOnce FollowsWritably size_of marks_of TraderActs v a r w) where
  since : FollowsWritably (the_one v.seen hv) t.before
  since = before_one v.seen hv t.before t.later_than_seen.0

  abbrev others : Follows (the_one v.seen hv) t.before
  others = since.follows

  -- what is seen after a turn follows what was seen before
  pub turn_follows : FollowsWritably (the_one v.seen hv) (the_one w.seen hw)
  turn_follows =
      subst (FollowsWritably (the_one v.seen hv)) (sym (one_is w.seen hw t.after (ap (λ (y : Knowledge PlainTrader).
      y.seen) t.is))) (writable-on (the_one v.seen hv) t.before t.after since (acts_follow t.before a r t.after
      t.act))

  abbrev numbers : List ℕ
  numbers = map number_of v.own_marks

  world-then : view_by w hw ≡ view_of t.after (with_place v.own (size_of t.before) (size_of t.after)) (numbers ++
      number_between t.before.marks t.after.marks)
  world-then =
      view-is w (after_turn size_of marks_of v t.before t.after) hw t.after t.is refl
      ∙ ap (λ (ns : List ℕ). view_of t.after (with_place v.own (size_of t.before) (size_of t.after)) ns) (map-append
      number_of v.own_marks (marks_between t.before.marks t.after.marks) ∙ ap (λ (ns : List ℕ). numbers ++ ns)
      (numbers-between t.before.marks t.after.marks))

  -- and is a turn in what is seen of all
  pub turn_at : {A : Type 0} (f : A → View) (ps : List A) (k : ℕ) (p q : A) → f p ≡ view_by v hv → f q ≡ view_by w hw
      → k < length ps → p ≡ slice_index_or ps k p → TurnAt (map f ps) k a r (map f (slice_set ps k q))
  turn_at f ps k p q fp fq inside is = record {
    seen = after_others (view_by v hv) others.more t.before.marks;
    meanwhile = record {
      view = view_by v hv;
      between = others.more;
      marks = t.before.marks;
      is = got f ps k p inside is ∙ ap Some fp;
      may = since.admitted;
      legal = others.legal;
      may_mark = others.marks;
      seen_is = refl;
    };
    before = t.before;
    seen_is = others-seen (the_one v.seen hv) t.before others v.own numbers;
    after = t.after;
    acts = t.act;
    world = map-set f ps k q ∙ ap (slice_set (map f ps) k) (fq ∙ world-then);
  }
