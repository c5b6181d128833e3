-- The worked examples.
use Rattle.std.proofs.Common.{◌≡◌, inl, inr, ℕ, List, [], ◌∷◌, ◌++◌, refl, sym, ap, subst, ◌∙◌, arith}
use Rattle.std.specs.List.{slice_index}
use Rattle.std.specs.Prelude.{Option, None, Some, codes}
use Rattle.td_cdr.specs.Marks.{In}
use Rattle.td_ops.specs.declared.call.Call.TheVariants as call
use Rattle.td_ops.specs.declared.call.Change.{Change}
use Rattle.td_ops.specs.declared.call.Change.TheVariants as change
use Rattle.td_ops.specs.declared.outcome.Reply.TheVariants.{Nothing}
use Rattle.td_register.specs.declared.history.Accepted.{Accepted}
use Rattle.td_servant.specs.declared.entry.Entry.{Entry}
use Rattle.td_servant.specs.declared.judging.Judged.TheVariants.{Call, Refused}
use Rattle.td_servant.specs.declared.judging.Judged.{Judged}
use Rattle.td_server.specs.Whole.{Every}
use Rattle.td_sessions_laws.proofs.OneSession.{made-there}
use Rattle.td_sessions_laws.specs.Examples.{WorkedEntries, by_one, by_two, mask, mask_entry, two_entries}
use Rattle.td_sessions_laws.specs.OneHistory.{MakesEntry, MakesNone, SessionRequest, request_in}
use Rattle.td_session_runs.specs.Examples.{repository}
use Rattle.td_session_runs.specs.Journals.{Makes, asking, changing, linking, places_in}

not-both : (m n : ℕ) → (m ≡ n → ⊥) → In m (n ∷ []) → ⊥
not-both m n other (inl e) = other e
not-both m n other (inr h) = absurd h

first-made : MakesEntry two_entries 0 0 by_one.request
first-made = record {
  accepted = refl;
  change = mask (codes "T");
  made = changing repository (mask (codes "T")) 0;
  content = Nothing;
  outcome = refl;
  stands = refl;
}

second-made : MakesEntry two_entries 0 1 by_two.request
second-made = record {
  accepted = refl;
  change = mask (codes "U");
  made = changing repository (mask (codes "U")) 1;
  content = Nothing;
  outcome = refl;
  stands = refl;
}

two-are-two : (k place : ℕ) (a b : SessionRequest) (before rest : List SessionRequest) (one : SessionRequest)
    → a ∷ b ∷ [] ≡ before ++ one ∷ rest → In place (places_in k a.request) → In place (places_in k b.request)
    → Every (MakesNone k place) (before ++ rest) → ⊥
two-are-two k place a b [] rest one is at_a at_b alone =
    let e : b ∷ [] ≡ rest = cc in
    let all : Every (MakesNone k place) (b ∷ []) = subst (Every (MakesNone k place)) (sym e) alone in all.0 at_b
two-are-two k place a b (x ∷ before) rest one is at_a at_b alone =
    let e : a ≡ x = cc in alone.0 (subst (λ (p : SessionRequest). In place (places_in k p.request)) e at_a)

only-one : (a one : SessionRequest) (before rest : List SessionRequest) → a ∷ [] ≡ before ++ one ∷ rest → a ≡ one
only-one a one [] rest is = let e : a ≡ one = cc in e
only-one a one (x ∷ []) rest is = absurd cc
only-one a one (x ∷ y ∷ before) rest is = absurd cc

-- the change is the one that was asked for
IsAsked : Judged → Change → Type 0
IsAsked (Call x (call.Change asked)) c = c ≡ asked
IsAsked (Call x other) c = Unit {0}
IsAsked (Refused o) c = Unit {0}

as-asked : {j : Judged} {e : Entry} {k place : ℕ} {c : Change} → Makes j e k place c → IsAsked j c
unfolding IsAsked
as-asked (changing x c point) = refl
as-asked (linking x l point register) = tt
as-asked (asking x l point gave) = tt

change-there : Option Accepted → Change → Change
change-there (Some e) c = e.change
change-there None c = c

letter : Change → ℕ
letter (change.MaskType name) = slice_index name 0
letter other = 0

not-by-one : (p : SessionRequest) → by_one ≡ p → MakesEntry two_entries 0 1 p.request → ⊥
not-by-one p is m =
    let n : MakesEntry two_entries 0 1 by_one.request =
    subst (λ (q : SessionRequest). MakesEntry two_entries 0 1 q.request) (sym is) m in
    let e : 0 ≡ 1 = (made-there 0 0 n.made (inl refl)).1 in omega (arith, e)

not-there : MakesEntry two_entries 0 0 (mask_entry (codes "U") 0) → ⊥
unfolding IsAsked change-there letter
not-there m =
    let asked : m.change ≡ mask (codes "U") = as-asked m.made in
    let there : mask (codes "T") ≡ m.change =
    ap (λ (o : Option Accepted). change-there o (mask (codes "U"))) m.stands in
    let e : 84 ≡ 85 = ap letter (there ∙ asked) in omega (arith, e)

pub worked : WorkedEntries
worked = record {
  first = record {
    before = [];
    one = by_one;
    rest = by_two ∷ [];
    are = refl;
    makes = first-made;
    alone = (not-both 0 1 (λ e. omega (arith, e)), tt);
  };
  second = record {
    before = by_one ∷ [];
    one = by_two;
    rest = [];
    are = refl;
    makes = second-made;
    alone = (not-both 1 0 (λ e. omega (arith, e)), tt);
  };
  handed_on_later = record {
    before = by_two ∷ [];
    one = by_one;
    rest = [];
    are = refl;
    makes = first-made;
    alone = (not-both 0 1 (λ e. omega (arith, e)), tt);
  };
  twice = λ m.
      two-are-two 0 0 by_one (request_in 2 (mask_entry (codes "T") 0)) m.before m.rest m.one m.are (inl refl)
      (inl refl) m.alone;
  by_nobody = λ m. not-by-one m.one (only-one by_one m.one m.before m.rest m.are) m.makes;
  elsewhere = not-there;
}
