-- What a turn of a cell is to one who sees the contexts through a pass.
use Rattle.std.proofs.Common.{◌≡◌, ℕ, ◌<◌, Bool, true, false, cond, List, [], ◌∷◌, ◌++◌, length, Option, Some, None}
use Rattle.std.proofs.Common.{IsSome, Result, Ok, Err, IfOk, OnErr, refl, sym, ap, subst, ◌∙◌, arith, length-append}
use Rattle.std.proofs.Common.{lt-ltb, le-ltb, le_refl}
use Rattle.std.proofs.lemmas.Bool.{false≢true}
use Rattle.td_cdr.specs.declared.memory.Memory.{Memory}
use Rattle.td_cell.proofs.Chains.{just}
use Rattle.td_cell.specs.Lists.{with_place}
use Rattle.td_cell.specs.Rules.{Before}
use Rattle.td_cell.specs.declared.pass.View.{View as Knowledge}
use Rattle.td_names.specs.References.{IsAddress}
use Rattle.td_names.specs.Stores.{is_live}
use Rattle.td_names.specs.declared.act.NameAct.{NameAct}
use Rattle.td_names.specs.declared.act.NameAnswer.{NameAnswer}
use Rattle.td_names.specs.declared.address.Address.{Address}
use Rattle.td_naming.proofs.Accepting.{legal_more}
use Rattle.td_naming.specs.Histories.{Legal, Past, change_at, is_accepted, past}
use Rattle.td_naming.specs.Views.{NamingActs as NameActs, LooksAtContext, Meanwhile, View, with_own}
use Rattle.td_naming.specs.declared.history.NameChange.{NameChange}
use Rattle.td_shared_names.specs.Acting.{AnswersCall, ExtendsPast, size_of, store_of}
use Rattle.td_shared_names.specs.BookLaws.{acts_go_on, goes_on_more}
use Rattle.td_shared_names.specs.Seeing.{IsLegalPast, ActsInTurn, any_changes, the_one, view_by, view_of}
use Rattle.td_shared_names.specs.declared.book.Act.{Act}
use Rattle.td_shared_names.specs.declared.book.Act.TheVariants as act
use Rattle.td_shared_names.specs.declared.book.Reply.{Reply}
use Rattle.td_shared_names.specs.declared.book.Reply.TheVariants as reply

-- ---- what is in an option

pub some_one : {A : Type 0} (o : Option A) (h : IsSome o) → o ≡ Some (the_one o h)
some_one None h = absurd (false≢true h)
some_one (Some a) h = refl

pub one_is : {A : Type 0} (o : Option A) (h : IsSome o) (a : A) → o ≡ Some a → the_one o h ≡ a
one_is None h a e = absurd (false≢true h)
one_is (Some b) h a e = just b a e

pub before_one : (o : Option Past) (h : IsSome o) (p : Past) → Before ExtendsPast o p → ExtendsPast (the_one o h) p
before_one None h p b = absurd (false≢true h)
before_one (Some a) h p b = b

-- ---- contexts that go on

pub sound_on : (p q : Past) → ExtendsPast p q → IsLegalPast p → IsLegalPast q
sound_on p q f s =
    let more : Legal p.home (p.history ++ f.more) =
    legal_more _ p.history f.more s.1 f.legal in
    let there : Legal p.home q.history = subst (Legal p.home) (sym f.history) more in (
      subst IsAddress (sym f.home) s.0,
      subst (λ (home : Address). Legal home q.history) (sym f.home) there,
    )

abbrev view : Address → List NameChange → List ℕ → View
view home history own = record { home = home; history = history; own = own }

-- what others have made of contexts that are seen
pub others_seen : (p q : Past) (own : List ℕ) → ExtendsPast p q → Meanwhile any_changes (view_of p own) (view_of q own)
others_seen p q own f = record {
  between = f.more;
  may = tt;
  legal = f.legal;
  is =
      ap (λ (home : Address). view home q.history own) f.home
      ∙ ap (λ (h : List NameChange). view p.home h own) f.history;
}

-- ---- one's own places after an act

own_same : (own : List ℕ) (n : ℕ) → with_place own n n ≡ own
own_same own n = ap (λ (b : Bool). cond b (own ++ n ∷ []) own) (le-ltb n n (le_refl n))

own_more : (own : List ℕ) (h : List NameChange) (e : NameChange)
    → with_place own (length h) (length (h ++ e ∷ [])) ≡ own ++ length h ∷ []
own_more own h e =
    let longer : length h < length (h ++ e ∷ []) = rw length-append (omega arith) in
    ap (λ (b : Bool). cond b (own ++ length h ∷ []) own) (lt-ltb (length h) (length (h ++ e ∷ [])) longer)

-- what is seen after an act that found p and left q
abbrev seen_after : List ℕ → Past → Past → View
seen_after own p q = view_of q (with_place own (size_of p) (size_of q))

after_by : (p : Past) (own : List ℕ) (e : NameChange) (flag : Bool)
    → seen_after own p (past p.home (cond flag (p.history ++ e ∷ []) p.history))
    ≡ cond flag (with_own (view_of p own) e) (view_of p own)
after_by p own e true = ap (view p.home (p.history ++ e ∷ [])) (own_more own p.history e)
after_by p own e false = ap (view p.home p.history) (own_same own (length p.history))

after_kept : (p q : Past) (own : List ℕ) → q ≡ p → seen_after own p q ≡ view_of p own
after_kept p q own e =
    ap (λ (x : Past). seen_after own p x) e ∙ ap (view p.home p.history) (own_same own (size_of p))

-- ---- a turn

module _ (v w : Knowledge Past) (hv : IsSome v.seen) (hw : IsSome w.seen) (a : Act) (r : Reply)
    (t : ActsInTurn v a r w) where
  since : ExtendsPast (the_one v.seen hv) t.before
  since = before_one v.seen hv t.before t.later_than_seen.0

  -- what is seen after a turn goes on from what was seen before
  pub turn_goes_on : ExtendsPast (the_one v.seen hv) (the_one w.seen hw)
  turn_goes_on =
      subst (ExtendsPast (the_one v.seen hv))
      (sym (one_is w.seen hw t.after (ap (λ (y : Knowledge Past). y.seen) t.is)))
      (goes_on_more (the_one v.seen hv) t.before t.after since (acts_go_on t.before a r t.after t.act))

  meanwhile : Meanwhile any_changes (view_by v hv) (view_of t.before v.own)
  meanwhile = others_seen (the_one v.seen hv) t.before v.own since

  seen_then : view_by w hw ≡ seen_after v.own t.before t.after
  seen_then =
      ap (λ (p : Past). view_of p w.own)
      (one_is w.seen hw t.after (ap (λ (y : Knowledge Past). y.seen) t.is))
      ∙ ap (λ (y : Knowledge Past). view_of t.after y.own) t.is

  -- where the act changed nothing, others alone have
  idle : t.after ≡ t.before → Meanwhile any_changes (view_by v hv) (view_by w hw)
  idle same =
      subst (Meanwhile any_changes (view_by v hv))
      (sym (seen_then ∙ after_kept t.before t.after v.own same)) meanwhile

-- ---- the calls

module _ (v w : Knowledge Past) (hv : IsSome v.seen) (hw : IsSome w.seen) (c : ℕ) where
  pub acts_ok : (a : NameAct) (r : Result NameAnswer Memory) → ActsInTurn v (act.Call c a) (reply.Called r) w
      → IfOk r (λ x. NameActs any_changes (view_by v hv) c a x (view_by w hw))
  acts_ok a (Ok x) t =
      let e : NameChange = change_at (store_of t.before) c a in
      let called : AnswersCall t.before c a x t.after = t.act in
      record {
        seen = view_of t.before v.own;
        meanwhile = meanwhile v w hv hw (act.Call c a) (reply.Called (Ok x)) t;
        answer = called.answer;
        after =
            seen_then v w hv hw (act.Call c a) (reply.Called (Ok x)) t
            ∙ ap (λ (p : Past). seen_after v.own t.before p) called.left
            ∙ after_by t.before v.own e (is_accepted a x);
      }
  acts_ok a (Err memory) t = tt

  pub acts_err : (a : NameAct) (r : Result NameAnswer Memory) → ActsInTurn v (act.Call c a) (reply.Called r) w
      → OnErr r (Meanwhile any_changes (view_by v hv) (view_by w hw))
  acts_err a (Ok x) t = tt
  acts_err a (Err memory) t = idle v w hv hw (act.Call c a) (reply.Called (Err memory)) t t.act

  pub looks : (live : Bool) → ActsInTurn v (act.Live c) (reply.Live live) w
      → LooksAtContext any_changes (view_by v hv) c live (view_by w hw)
  looks live t =
      let content : (live ≡ is_live (store_of t.before) c) × (t.after ≡ t.before) = t.act in
      let is : view_by w hw ≡ view_of t.before v.own =
      seen_then v w hv hw (act.Live c) (reply.Live live) t ∙ after_kept t.before t.after v.own content.1 in
      record {
        meanwhile = idle v w hv hw (act.Live c) (reply.Live live) t content.1;
        content = content.0 ∙ ap (λ (x : View). is_live (store_of (past x.home x.history)) c) (sym is);
      }
