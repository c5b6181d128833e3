-- Passes that are split off the opening one, and met again.
use Rattle.std.proofs.Common.{◌≡◌, ℕ, ◌+◌, ◌-◌, ◌<◌, ◌≤◌, [], ◌∷◌, length, false, true, sym, ◌∙◌, ap}
use Rattle.std.proofs.Common.{subst, arith, length-append}
use Rattle.std.proofs.lemmas.List.{length-set}
use Rattle.td_cdr.specs.Marks.{In}
use Rattle.td_cell.specs.Passes.{SameCell, knowledge, opened_book}
use Rattle.td_cell.specs.Rules.{Before, all_met}
use Rattle.td_cell.specs.declared.book.Book.{Ghosts}
use Rattle.td_cell.specs.declared.cell.Cell.{Cell}
use Rattle.td_cell.specs.declared.pass.Pass.{Pass}
use Rattle.td_cell.specs.declared.pass.View.{View as Knowledge}
use Rattle.td_naming.specs.Histories.{Past}
use Rattle.td_shared_names.specs.Acting.{ExtendsPast, size_of}
use Rattle.td_shared_names.specs.BookLaws.{goes_on_itself, goes_on_more}
use Rattle.td_shared_names.specs.Seeing.{IsLegalPast, past_of}
use Rattle.td_shared_names.specs.Sharing.{IsTakenOut, IsPutIn, IsOpeningOf, IsOut, IsUnchanged, MeetsPass, OutStays}
use Rattle.td_shared_names.specs.Sharing.{SamePass, SplitsOff}
use Rattle.td_shared_names.proofs.Seen.{before_one, one_is, some_one, sound_on}

module _ {A R : Type 0} {g : Ghosts Past A R} where
  -- ---- the opening pass

  pub same_past : (p q : Pass Past A R g) → (knowledge q).seen ≡ (knowledge p).seen → past_of q ≡ past_of p
  same_past p q e = one_is (knowledge q).seen q.knows (past_of p) (e ∙ some_one (knowledge p).seen p.knows)

  pub fresh_opening : (n : Past) (c : Cell Past A R) (p : Pass Past A R g) → p.seat.table_id ≡ c.table.shared.table_id
      → (knowledge p).number ≡ 0 → IsPutIn n c p → IsOpeningOf c p
  fresh_opening n c p belongs opening f =
      let is : past_of p ≡ n =
      one_is (knowledge p).seen p.knows n (ap (λ (v : Knowledge Past). v.seen) f.seen) in
      record {
        belongs = belongs;
        opening = opening;
        seen =
            subst (λ (x : Past). ExtendsPast x (past_of p)) (sym f.opened_is)
            (subst (ExtendsPast n) (sym is) (goes_on_itself n));
      }

  still_opening : (c : Cell Past A R) (p q : Pass Past A R g) → IsOpeningOf c p → SameCell q p
      → (knowledge q).number ≡ (knowledge p).number → (knowledge q).seen ≡ (knowledge p).seen → IsOpeningOf c q
  still_opening c p q o cell number seen = record {
    belongs = cell ∙ o.belongs;
    opening = number ∙ o.opening;
    seen = subst (ExtendsPast (opened_book c)) (sym (same_past p q seen)) o.seen;
  }

  pub opening_split : (c : Cell Past A R) (p t q : Pass Past A R g) → IsOpeningOf c p → SplitsOff p t q
      → IsOpeningOf c q
  opening_split c p t q o s =
      still_opening c p q o s.same_cell (ap (λ (v : Knowledge Past). v.number) s.opening)
      (ap (λ (v : Knowledge Past). v.seen) s.opening)

  pub opening_same : (c : Cell Past A R) (p q : Pass Past A R g) → IsOpeningOf c p → IsUnchanged p q
      → IsOpeningOf c q
  opening_same c p q o s =
      still_opening c p q o s.same_cell (ap (λ (v : Knowledge Past). v.number) s.knows)
      (ap (λ (v : Knowledge Past). v.seen) s.knows)

  pub opening_met : (c : Cell Past A R) (p t q : Pass Past A R g) → IsOpeningOf c p → MeetsPass p t q → IsOpeningOf c q
  opening_met c p t q o m =
      let l = m.learned in
      let to_book : ExtendsPast (past_of p) l.book = before_one (knowledge p).seen p.knows l.book l.before.0 in
      let is : past_of q ≡ l.book =
      one_is (knowledge q).seen q.knows l.book (ap (λ (v : Knowledge Past). v.seen) l.is) in
      record {
        belongs = m.same_cell ∙ o.belongs;
        opening = m.opening;
        seen = subst (ExtendsPast (opened_book c)) (sym is) (goes_on_more (opened_book c) (past_of p) l.book o.seen to_book);
      }

  -- ---- a session's pass

  pub is_out : (p t q : Pass Past A R g) → SplitsOff p t q → IsOut q t
  is_out p t q s =
      let number : (knowledge t).number ≡ length (knowledge p).met + 1 =
      ap (λ (v : Knowledge Past). v.number) s.out in
      let longer : length (knowledge q).met ≡ length (knowledge p).met + 1 =
      ap (λ (v : Knowledge Past). length v.met) s.opening ∙ length-append (knowledge p).met (false ∷ []) in
      record {
        of_cell = s.of_cell ∙ sym s.same_cell;
        split = record { number = omega arith; known = omega arith };
      }

  -- what is out stays out while the opening pass's list doesn't shrink
  out_on : (p q t : Pass Past A R g) → SameCell q p → length (knowledge p).met ≤ length (knowledge q).met → IsOut p t
      → IsOut q t
  out_on p q t cell longer o =
      let most = o.split.known in
      record {
        of_cell = o.of_cell ∙ sym cell;
        split = record { number = o.split.number; known = omega arith };
      }

  pub split_keeps_out : (p t q : Pass Past A R g) → SplitsOff p t q → OutStays p q
  split_keeps_out p t q s =
      let longer : length (knowledge q).met ≡ length (knowledge p).met + 1 =
      ap (λ (v : Knowledge Past). length v.met) s.opening ∙ length-append (knowledge p).met (false ∷ []) in
      λ u. out_on p q u s.same_cell (omega arith)

  pub same_keeps_out : (p q : Pass Past A R g) → IsUnchanged p q → OutStays p q
  same_keeps_out p q s =
      let same : length (knowledge q).met ≡ length (knowledge p).met =
      ap (λ (v : Knowledge Past). length v.met) s.knows in
      λ u. out_on p q u s.same_cell (omega arith)

  pub meet_keeps_out : (p t q : Pass Past A R g) → MeetsPass p t q → OutStays p q
  meet_keeps_out p t q m =
      let same : length (knowledge q).met ≡ length (knowledge p).met =
      ap length m.met ∙ length-set (knowledge p).met ((knowledge t).number - 1) true in
      λ u. out_on p q u m.same_cell (omega arith)

  -- the pass that a session called through is out as it was
  pub still_out : (p t u : Pass Past A R g) → SamePass t u → IsOut p t → IsOut p u
  still_out p t u s o =
      let number : (knowledge t).number ≡ (knowledge u).number = s.1 in
      let first = o.split.number in
      let most = o.split.known in
      record {
        of_cell = sym s.0 ∙ o.of_cell;
        split = record { number = omega arith; known = omega arith };
      }

  -- what is split off has seen what can be seen of these contexts
  pub split_past : (p t q : Pass Past A R g) → SplitsOff p t q → past_of t ≡ past_of p
  split_past p t q s = same_past p t (ap (λ (v : Knowledge Past). v.seen) s.out)

  pub split_home : (c : Cell Past A R) (p t q : Pass Past A R g) → IsOpeningOf c p → SplitsOff p t q
      → (past_of t).home ≡ (opened_book c).home
  split_home c p t q o s = ap (λ (x : Past). x.home) (split_past p t q s) ∙ o.seen.home

  pub split_sound : (c : Cell Past A R) (p t q : Pass Past A R g) → IsOpeningOf c p → SplitsOff p t q
      → IsLegalPast (opened_book c) → IsLegalPast (past_of t)
  split_sound c p t q o s h =
      subst IsLegalPast (sym (split_past p t q s)) (sound_on (opened_book c) (past_of p) o.seen h)

  -- ---- the end

  pub taken_out : (c : Cell Past A R) (p : Pass Past A R g) (n : Past) → all_met (knowledge p).met ≡ true
      → Before ExtendsPast (knowledge p).seen n → ExtendsPast (opened_book c) n
      → ((k : ℕ) → size_of (opened_book c) ≤ k → k < size_of n → In k (knowledge p).own) → IsTakenOut c p n
  taken_out c p n met before since places = record {
    met = met;
    since = since;
    seen = before_one (knowledge p).seen p.knows n before;
    places = places;
  }
