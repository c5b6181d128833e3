-- Naming contexts as the book of a cell: what they may become, and what an act answers and leaves (OMG's Naming
-- Service, interface CosNaming::NamingContext).
use Rattle.std.specs.Prelude.{◌≡◌, ℕ, List, [], ◌++◌, length, Result, Ok, Err}
use Rattle.td_cdr.specs.Marks.{Marks}
use Rattle.td_cdr.specs.declared.memory.Memory.{Memory}
use Rattle.td_names.specs.Applying.{apply_act}
use Rattle.td_names.specs.Stores.{Store, is_live}
use Rattle.td_names.specs.declared.act.NameAct.{NameAct}
use Rattle.td_names.specs.declared.act.NameAnswer.{NameAnswer}
use Rattle.td_naming.specs.Histories.{LegalFrom, Past, add_accepted, past, store_after}
use Rattle.td_naming.specs.declared.history.NameChange.{NameChange}
use Rattle.td_shared_names.specs.declared.book.Act.{Act}
use Rattle.td_shared_names.specs.declared.book.Act.TheVariants as act
use Rattle.td_shared_names.specs.declared.book.Reply.{Reply}
use Rattle.td_shared_names.specs.declared.book.Reply.TheVariants as reply

-- naming contexts make no marks
abbrev pub no_marks : Marks
no_marks = record { count = 0; counter = 0; ring = 0; kept = [] }

-- how many changes were accepted
abbrev pub size_of : Past → ℕ
size_of p = length p.history

-- the store behind the history
abbrev pub store_of : Past → Store
store_of p = store_after p.home p.history

-- The second may be what the first has become: it is reached at the same place, and its history goes on by changes that
-- are each accepted where those before it lead to.
pub record ExtendsPast (p q : Past) : Type 0 where
  pub home : q.home ≡ p.home
  pub more : List NameChange
  pub history : q.history ≡ p.history ++ more
  pub legal : LegalFrom (store_of p) more

-- a call is answered at the store behind the history, and stands at the history's end where it is an accepted change
pub record AnswersCall (p : Past) (c : ℕ) (a : NameAct) (r : NameAnswer) (q : Past) : Type 0 where
  pub answer : r ≡ (apply_act (store_of p) c a).1
  pub left : q ≡ past p.home (add_accepted p.history (store_of p) c a r)

-- that, or nothing was done when out of memory
abbrev pub CallsOrNot : Past → ℕ → NameAct → Result NameAnswer Memory → Past → Type 0
CallsOrNot p c a (Ok r) q = AnswersCall p c a r q
CallsOrNot p c a (Err memory) q = q ≡ p

abbrev pub NamesAct : Past → Act → Reply → Past → Type 0
NamesAct p (act.Call c a) (reply.Called r) q = CallsOrNot p c a r q
NamesAct p (act.Call c a) (reply.Live live) q = ⊥
NamesAct p (act.Live c) (reply.Called r) q = ⊥
NamesAct p (act.Live c) (reply.Live live) q = (live ≡ is_live (store_of p) c) × (q ≡ p)
