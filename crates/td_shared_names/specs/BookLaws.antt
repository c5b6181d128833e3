-- The laws of naming contexts as the book of a cell.
use Rattle.std.proofs.Common.{◌≡◌, ℕ, ◌+◌, ◌≤◌, Bool, true, false, cond, inl, List, [], ◌∷◌, ◌++◌, length}
use Rattle.std.proofs.Common.{length-append, append-nil, append_assoc, Result, Ok, Err, refl, sym, ap, subst, ◌∙◌, arith}
use Rattle.td_cdr.specs.Marks.{Later}
use Rattle.td_cdr.specs.declared.memory.Memory.{Memory}
use Rattle.td_cell.specs.OwnMarks.{AddsMark}
use Rattle.td_names.specs.Applying.{apply_act}
use Rattle.td_names.specs.Stores.{Store}
use Rattle.td_names.specs.declared.act.NameAct.{NameAct}
use Rattle.td_names.specs.declared.act.NameAnswer.{NameAnswer}
use Rattle.td_names.specs.declared.address.Address.{Address}
use Rattle.td_naming.proofs.Accepting.{accepted_there, after_more, legal_more}
use Rattle.td_naming.specs.Histories.{LegalFrom, Past, after_all, change_at, is_accepted, past, store_after}
use Rattle.td_naming.specs.declared.history.NameChange.{NameChange}
use Rattle.td_shared_names.specs.Acting.{NamesAct, AnswersCall, CallsOrNot, ExtendsPast, no_marks, size_of, store_of}
use Rattle.td_shared_names.specs.declared.book.Act.{Act}
use Rattle.td_shared_names.specs.declared.book.Act.TheVariants as act
use Rattle.td_shared_names.specs.declared.book.Reply.{Reply}
use Rattle.td_shared_names.specs.declared.book.Reply.TheVariants as reply

-- ---- what contexts may become

pub goes_on_itself : (p : Past) → ExtendsPast p p
goes_on_itself p = record {
  home = refl;
  more = [];
  history = sym (append-nil p.history);
  legal = tt;
}

-- the store behind a history that goes on
pub store_on : (p q : Past) (f : ExtendsPast p q) → store_of q ≡ after_all (store_of p) f.more
store_on p q f =
    ap (λ (home : Address). store_after home q.history) f.home
    ∙ ap (λ (h : List NameChange). store_after p.home h) f.history
    ∙ after_more (store_after p.home []) p.history f.more

pub goes_on_more : (p q r : Past) → ExtendsPast p q → ExtendsPast q r → ExtendsPast p r
goes_on_more p q r f g = record {
  home = g.home ∙ f.home;
  more = f.more ++ g.more;
  history =
      g.history ∙ ap (λ (h : List NameChange). h ++ g.more) f.history
      ∙ append_assoc p.history f.more g.more;
  legal =
      legal_more (store_of p) f.more g.more f.legal
      (subst (λ (s : Store). LegalFrom s g.more) (store_on p q f) g.legal);
}

pub grows : (p q : Past) → ExtendsPast p q → size_of p ≤ size_of q
grows p q f = omega (arith, ap (length {A = NameChange}) f.history, length-append p.history f.more)

pub no_mark : (p q : Past) → ExtendsPast p q → Later no_marks no_marks
no_mark p q f = record {
  ring = refl;
  count = omega arith;
  counter = omega arith;
  keeps = λ e i lt. i;
  same = λ e. refl;
}

-- ---- what an act makes of them

-- their history is as it was, or has one change more
pub record Once (p q : Past) : Type 0 where
  pub goes_on : ExtendsPast p q
  pub most : size_of q ≤ size_of p + 1

kept_once : (p q : Past) → q ≡ p → Once p q
kept_once p q e = subst (Once p) (sym e) (record { goes_on = goes_on_itself p; most = omega arith })

module _ (p : Past) (c : ℕ) (a : NameAct) where
  more_once : is_accepted a (apply_act (store_of p) c a).1 ≡ true
      → Once p (past p.home (p.history ++ change_at (store_of p) c a ∷ []))
  more_once flag = record {
    goes_on = record {
      home = refl;
      more = change_at (store_of p) c a ∷ [];
      history = refl;
      legal = (accepted_there (store_of p) c a flag, tt);
    };
    most = (let long = length-append p.history (change_at (store_of p) c a ∷ []) in omega
        (arith, long));
  }

  noted_once : (flag : Bool) → is_accepted a (apply_act (store_of p) c a).1 ≡ flag
      → Once p (past p.home (cond flag (p.history ++ change_at (store_of p) c a ∷ []) p.history))
  noted_once true flag = more_once flag
  noted_once false flag = kept_once p p refl

  called_once : (r : NameAnswer) (q : Past) → AnswersCall p c a r q → Once p q
  called_once r q h =
      subst (Once p) (sym h.left)
      (noted_once (is_accepted a r) (ap (is_accepted a) (sym h.answer)))

  call_once : (r : Result NameAnswer Memory) (q : Past) → CallsOrNot p c a r q → Once p q
  call_once (Ok r) q h = called_once r q h
  call_once (Err memory) q h = kept_once p q h

once : (p : Past) (a : Act) (r : Reply) (q : Past) → NamesAct p a r q → Once p q
once p (act.Call c a) (reply.Called r) q h = call_once p c a r q h
once p (act.Call c a) (reply.Live live) q h = absurd h
once p (act.Live c) (reply.Called r) q h = absurd h
once p (act.Live c) (reply.Live live) q h = kept_once p q h.1

pub acts_go_on : (p : Past) (a : Act) (r : Reply) (q : Past) → NamesAct p a r q → ExtendsPast p q
acts_go_on p a r q h = (once p a r q h).goes_on

pub acts_within : (p : Past) (a : Act) (r : Reply) (q : Past) → NamesAct p a r q
    → size_of q ≤ size_of p + 1
acts_within p a r q h = (once p a r q h).most

pub makes_none : (p : Past) (a : Act) (r : Reply) (q : Past) → NamesAct p a r q
    → AddsMark no_marks no_marks
makes_none p a r q h = inl refl
