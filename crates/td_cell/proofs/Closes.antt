-- At the end the book is at home.
use Rattle.std.proofs.Common.{◌≡◌, ℕ, zero, suc, ◌-◌, ◌<◌, ◌≤◌, inl, inr, List, [], ◌∷◌, Bool, true, false, refl, sym}
use Rattle.std.proofs.Common.{◌∙◌, ap, subst, arith, slice_get, slice_index, Some, None}
use mathlib.Core.Option.{some, some-injective}
use lib.ListN.{get_elem?}
use Rattle.atomic_table.specs.Table.{State, Final, Seen}
use Rattle.td_cdr.specs.Marks.{In, Marks}
use Rattle.td_cell.specs.declared.pass.View.{View}
use Rattle.td_cell.specs.Rules.{KeepsRule, HoldsTurn, NumbersDiffer, Before, all_met}

pub none_left : (ms : List Bool) (k : ℕ) → all_met ms ≡ true → slice_get ms k ≡ Some false → ⊥
none_left [] k h e = absurd (cc)
none_left (false ∷ ms) k h e = absurd (cc)
none_left (true ∷ ms) zero h e = absurd (let a : true ≡ false = ap (unwrap) e in cc)
  where
    unwrap : Rattle.std.specs.Prelude.Option Bool → Bool
    unwrap None = true
    unwrap (Some b) = b
none_left (true ∷ ms) (suc k) h e = none_left ms k h e

module _ {B : Type 0} (later : B → B → Type 0) (size : B → ℕ) (kept : B → Marks) (opened : B) (id : ℕ) (v : View B)
    (first : v.number ≡ 0) (live : v.spent ≡ false) (rests : v.holds ≡ false) (met : all_met v.met ≡ true) where
  -- only the opening view is not spent
  alone : (views : List (View B)) → NumbersDiffer views → get_elem? views id ≡ some v → (i : ℕ) (h : View B)
      → get_elem? views i ≡ some h → h.spent ≡ false → h ≡ v
  alone views n here i h there unspent = number_or h.number refl
    where
      mine : id ≡ n.seats 0
      mine = rw first at (n.each id v here live).0

      same : v ≡ n.chief
      same = some-injective v n.chief (sym here ∙ (ap (get_elem? views) mine ∙ n.here))

      number_or : (k : ℕ) → h.number ≡ k → h ≡ v
      number_or zero e =
          let o = n.each i h there unspent in
          let at : i ≡ id = o.0 ∙ (ap n.seats e ∙ sym mine) in
          some-injective h v (sym there ∙ (ap (get_elem? views) at ∙ here))
      number_or (suc k) e =
          let o = n.each i h there unspent in
          absurd (none_left v.met (h.number - 1) met
          (ap (λ (x : View B). slice_get x.met (h.number - 1)) same ∙ o.2 (omega arith)))

  none_holds : (s : State B (View B)) (i : ℕ) (h : View B) (b : B) → HoldsTurn later size kept s i h b → NumbersDiffer s.views
      → get_elem? s.views id ≡ some v → ⊥
  none_holds s i h b t n here = spent_or h.spent refl
    where
      spent_or : (b : Bool) → h.spent ≡ b → ⊥
      spent_or true e = let no = n.idle i h t.seat e in let yes = t.holds in absurd (cc)
      spent_or false e =
          let one : h ≡ v = alone s.views n here i h t.seat e in
          let no : h.holds ≡ false = ap (λ (x : View B). x.holds) one ∙ rests in
          let yes = t.holds in
          absurd (cc)

  -- the book that comes home
  pub record Home (b : B) : Type 0 where
    pub seen : Before later v.seen b
    pub since : later opened b
    pub places : (k : ℕ) → size opened ≤ k → k < size b → In k v.own

  pub at_home : (ws : List ℕ) (xs : List B) → Final (Seen (KeepsRule later size kept opened) id v) ws xs
      → (b : B) × (get_elem? xs 0 ≡ some b) × Home b
  at_home ws xs (s, (k, here), w, l, homes) = elim k.stands as (λ _. (b : B) × (get_elem? xs 0 ≡ some b) × Home b) [
    | inl f ↦ (
      k.book,
      homes 0 k.book (rw f.home refl),
      record {
        seen = (f.views id v here).1.0;
        since = k.since;
        places = λ p above below.
            let word : slice_index s.words 1 ≡ size k.book = rw f.word refl in
            let h = k.placed.held p above (rw word below) in
            subst (λ (x : View B). In p x.own) (alone s.views k.numbers here h.0 h.1.view h.1.at h.1.live) h.1.has;
      },
    )
    | inr (i, h, t) ↦ absurd (none_holds s i h k.book t k.numbers here)
  ]
