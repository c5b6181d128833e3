-- Passes that are split off and taken in, as what is seen through them.
use Rattle.std.proofs.Common.{◌≡◌, ◌∙◌, ℕ, List, [], Some, IsSome, sym, ap, subst}
use Rattle.td_cell.specs.Lists.{Rises, itself}
use Rattle.td_cell.specs.Passes.{knowledge, opened_book}
use Rattle.td_cell.specs.declared.book.Book.{Ghosts}
use Rattle.td_cell.specs.declared.cell.Cell.{Cell}
use Rattle.td_cell.specs.declared.pass.Pass.{Pass}
use Rattle.td_cell.specs.declared.pass.View.{View as Knowledge}
use Rattle.td_naming.specs.Histories.{Past}
use Rattle.td_shared_names.proofs.Seen.{before_one, one_is, some_one}
use Rattle.td_shared_names.specs.Acting.{ExtendsPast}
use Rattle.td_shared_names.specs.Seeing.{past_of, seen_by, view_by, view_of}
use Rattle.td_shared_names.specs.Sharing.{IsTakenOut, IsPutIn, MeetsPass, SplitsOff}
use Rattle.td_name_sessions.specs.Sessions.{Closes, Joins, bare}

-- what is seen is the contexts with what is one's own
view_is : (v : Knowledge Past) (h : IsSome v.seen) (p : Past) (own : List ℕ) → v.seen ≡ Some p → v.own ≡ own
    → view_by v h ≡ view_of p own
view_is v h p own s o =
    ap (λ (x : Past). view_of x v.own) (one_is v.seen h p s) ∙ ap (λ (l : List ℕ). view_of p l) o

module _ {A R : Type 0} {g : Ghosts Past A R} where
  -- a session begins with what is seen, and with nothing of its own
  pub split_first : (p t q : Pass Past A R g) → SplitsOff p t q → seen_by t ≡ bare (seen_by p)
  split_first p t q s =
      view_is (knowledge t) t.knows (past_of p) []
      (ap (λ (k : Knowledge Past). k.seen) s.out ∙ some_one (knowledge p).seen p.knows)
      (ap (λ (k : Knowledge Past). k.own) s.out)

  pub split_keeps : (p t q : Pass Past A R g) → SplitsOff p t q → seen_by q ≡ seen_by p
  split_keeps p t q s =
      view_is (knowledge q) q.knows (past_of p) (knowledge p).own
      (ap (λ (k : Knowledge Past). k.seen) s.opening ∙ some_one (knowledge p).seen p.knows)
      (ap (λ (k : Knowledge Past). k.own) s.opening)

  -- what a session has seen and done is taken in
  pub join_seen : (p t q : Pass Past A R g) → MeetsPass p t q → Joins (seen_by p) (seen_by t) (seen_by q)
  join_seen p t q m =
      let book : Past = m.learned.book in
      let same : past_of q ≡ book =
      one_is (knowledge q).seen q.knows book (ap (λ (k : Knowledge Past). k.seen) m.learned.is) in
      let own = ap (λ (k : Knowledge Past). k.own) m.learned.is in
      record {
        before =
            subst (ExtendsPast (past_of p)) (sym same)
            (before_one (knowledge p).seen p.knows book m.learned.before.0);
        seen =
            subst (ExtendsPast (past_of t)) (sym same)
            (before_one (knowledge t).seen t.knows book m.learned.before.1);
        own = own;
        apart = subst (Rises itself) (sym own) m.learned.places;
      }

  -- ---- the opening and the end

  pub fresh_view : (n : Past) (c : Cell Past A R) (p : Pass Past A R g) → IsPutIn n c p → seen_by p ≡ view_of n []
  fresh_view n c p f =
      view_is (knowledge p) p.knows n [] (ap (λ (v : Knowledge Past). v.seen) f.seen)
      (ap (λ (v : Knowledge Past). v.own) f.seen)

  pub close_seen : (c : Cell Past A R) (p : Pass Past A R g) (n : Past) → IsTakenOut c p n
      → Closes (opened_book c) (seen_by p) n
  close_seen c p n m = record { since = m.since; seen = m.seen; places = m.places }
