-- The marks that a turn makes, and their identifiers.
use Rattle.std.proofs.Common.{◌≡◌, ℕ, ◌-◌, ◌<◌, inl, inr, zero, suc, List, [], ◌∷◌, length, slice_get, slice_set}
use Rattle.std.proofs.Common.{slice_index_or, Some, None, Bool, true, false, cond, nat_lt, ltb-true, refl, sym, ◌∙◌, ap}
use Rattle.std.proofs.Common.{subst, arith}
use Rattle.std.proofs.lemmas.Bool.{cases_lt}
use Rattle.std.proofs.lemmas.Option.{slice_get_read}
use Rattle.td_cdr.specs.Marks.{In, Marks, last_identifier}
use Rattle.td_cell.specs.Lists.{Rises}
use Rattle.td_cell.specs.OwnMarks.{AreSpaced, mark_between, marks_between, number_of}
use Rattle.td_cell.specs.Passes.{knowledge}
use Rattle.td_cell.specs.Rules.{ActsOnce}
use Rattle.td_cell.specs.declared.book.Book.{Ghosts}
use Rattle.td_cell.specs.declared.pass.Mark.{Mark}
use Rattle.td_cell.specs.declared.pass.Pass.{Pass}
use Rattle.td_cell.specs.declared.pass.View.{View as Knowledge}
use Rattle.td_cell.proofs.Chains.{just}
use Rattle.td_trader.specs.Following.{FollowsWritably}
use Rattle.td_trader.specs.PlainTraders.{PlainTrader}
use Rattle.td_group.specs.Acting.{TraderActs}
use Rattle.td_group.specs.Made.{IsMadeAt}
use Rattle.td_group.specs.declared.shared_trader.Act.{Act}
use Rattle.td_group.specs.declared.shared_trader.Reply.{Reply}
use Rattle.td_group.specs.MadeLaws.{act_makes}
use Rattle.td_group.specs.Grouping.{marks_of, size_of}
use Rattle.td_group.specs.MadeMarks.{AreMadeApart, MarksAt}
use Rattle.td_group.specs.Seeing.{trader_of}
use Rattle.td_group.proofs.Seen.{one_is}

get-set : {X : Type 0} (xs : List X) (k : ℕ) (x : X) → k < length xs → slice_get (slice_set xs k x) k ≡ Some x
get-set [] k x inside = absurd (omega arith)
get-set (y ∷ xs) zero x inside = refl
get-set (y ∷ xs) (suc k) x inside = get-set xs k x (omega arith)

-- numbers that rise are each one's own
rises-one : {X : Type 0} (number : X → ℕ) (xs : List X) (a b : X) → Rises number xs → In a xs → In b xs
    → number a ≡ number b → a ≡ b
rises-one number [] a b r h l e = absurd h
rises-one number (x ∷ xs) a b r (inl p) (inl q) e = p ∙ sym q
rises-one number (x ∷ xs) a b r (inl p) (inr l) e =
    let less = r.0 b l in
    let here : number a ≡ number x = ap number p in
    absurd (omega arith)
rises-one number (x ∷ xs) a b r (inr h) (inl q) e =
    let less = r.0 a h in
    let here : number b ≡ number x = ap number q in
    absurd (omega arith)
rises-one number (x ∷ xs) a b r (inr h) (inr l) e = rises-one number xs a b r.1 h l e

made-apart : (ring : ℕ) (ms : List Mark) → Rises number_of ms → AreSpaced ring ms → AreMadeApart ms
made-apart ring ms r s a b k l p q one two same = elim (cases_lt a.number b.number) as (λ _. a ≡ b) [
  | inl less ↦ absurd ((s a b p q less).identifiers k l one two same)
  | inr most ↦ elim (cases_lt b.number a.number) as (λ _. a ≡ b) [
    | inl less ↦ absurd ((s b a q p less).identifiers l k two one (sym same))
    | inr over ↦ let e : a.number ≡ b.number = omega arith in rises-one number_of ms a b r p q e
  ]
]

-- a mark by which b has become c, where its identifier was made
more-made : (b c : Marks) (P : List ℕ → ℕ → Type 0)
    → (b.counter < c.counter → P (last_identifier c.kept) (c.counter - 1)) → (m : Mark) (value : ℕ)
    → In m (marks_between b c) → m.made ≡ Some value → P m.identifier value
more-made b c P f m value h made = from (nat_lt b.count c.count) h
  where
    now : (o : Bool) → nat_lt b.counter c.counter ≡ o → cond o (Some (c.counter - 1)) None ≡ Some value
        → P (last_identifier c.kept) value
    now true is e = subst (P (last_identifier c.kept)) (just (c.counter - 1) value e) (f (ltb-true b.counter c.counter
        is))
    now false is e = absurd (let bad : ⊥ = cc in bad)

    from : (t : Bool) → In m (cond t (mark_between b c ∷ []) []) → P m.identifier value
    from true (inl e) =
        subst (λ (y : Mark). P y.identifier value) (sym e) (now (nat_lt b.counter c.counter) refl (sym (ap (λ (y :
        Mark). y.made) e) ∙ made))
    from true (inr l) = absurd l
    from false l = absurd l

module _ {A R : Type 0} {g : Ghosts PlainTrader A R} (ps : List (Pass PlainTrader A R g)) (k : ℕ)
    (p q : Pass PlainTrader A R g) (is : p ≡ slice_index_or ps k p) (a : Act) (r : Reply)
    (t : ActsOnce FollowsWritably size_of marks_of TraderActs (knowledge p) a r (knowledge q)) where
  left : trader_of q ≡ t.after
  left = one_is (knowledge q).seen q.knows t.after (ap (λ (v : Knowledge PlainTrader). v.seen) t.is)

  pub marks_at : k < length ps → MarksAt ps k (slice_set ps k q)
  marks_at inside = record {
    before = p;
    after = q;
    here = slice_get_read ps (length ps) k p refl inside is;
    there = get-set ps k q inside;
    more = marks_between t.before.marks t.after.marks;
    own_marks = ap (λ (v : Knowledge PlainTrader). v.own_marks) t.is;
    made = more-made t.before.marks t.after.marks (IsMadeAt (trader_of q)) (λ less. subst (λ (x : PlainTrader). IsMadeAt
        x (last_identifier t.after.marks.kept) (t.after.marks.counter - 1)) (sym left) (act_makes t.before a r t.after
        t.act less));
    apart = made-apart (marks_of t.after).ring (knowledge q).own_marks t.marks t.spaced;
  }
