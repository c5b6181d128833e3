-- What a pass sees of naming contexts, and what one turn of it is.
use Rattle.std.specs.Coded.{Coded, Coded-set, Unit-prop, coded_bool, le_prop, ×_prop}
use Rattle.std.specs.Prelude.{ℕ, List, [], ◌∷◌, Option, Some, None, IsSome}
use Rattle.std.proofs.lemmas.Bool.{false≢true}
use Rattle.td_cell.specs.Passes.{knowledge}
use Rattle.td_cell.specs.Rules.{ActsOnce}
use Rattle.td_cell.specs.declared.book.Book.{Ghosts}
use Rattle.td_cell.specs.declared.pass.Pass.{Pass}
use Rattle.td_cell.specs.declared.pass.View.{View as Knowledge}
use Rattle.td_names.specs.References.{IsAddress}
use Rattle.td_names.specs.Stores.{Store}
use Rattle.td_names.specs.contracts.act.NameAnswer as answer
use Rattle.td_names.specs.declared.act.NameAnswer.{NameAnswer}
use Rattle.td_names.specs.declared.address.Address.{Address}
use Rattle.td_naming.specs.Histories.{IsAccepted, Legal, LegalFrom, Past, after_change}
use Rattle.td_naming.specs.Views.{View}
use Rattle.td_naming.specs.declared.history.NameChange.{NameChange}
use Rattle.td_shared_names.specs.Acting.{NamesAct, ExtendsPast, no_marks, size_of}
use Rattle.td_shared_names.specs.declared.book.Act.{Act}
use Rattle.td_shared_names.specs.declared.book.Reply.{Reply}

-- ---- what is seen

-- the value that is there
abbrev pub the_one : {A : Type 0} → (o : Option A) → IsSome o → A
the_one None h = absurd (false≢true h)
the_one (Some a) h = a

-- contexts with the places of one's own changes
abbrev pub view_of : Past → List ℕ → View
view_of p own = record { home = p.home; history = p.history; own = own }

-- contexts as they were seen last, with the places of one's own changes
abbrev pub view_by : (v : Knowledge Past) → IsSome v.seen → View
view_by v knows = view_of (the_one v.seen knows) v.own

module _ {A R : Type 0} {g : Ghosts Past A R} where
  -- the contexts as the pass has seen them last
  abbrev pub past_of : Pass Past A R g → Past
  past_of p = the_one (knowledge p).seen p.knows

  abbrev pub seen_by : Pass Past A R g → View
  seen_by p = view_by (knowledge p) p.knows

-- others may make any changes
abbrev pub any_changes : List NameChange → Type 0
any_changes between = Unit {0}

-- one turn: what others did is there, and then the act is done, once
abbrev pub ActsInTurn : Knowledge Past → Act → Reply → Knowledge Past → Type 0
ActsInTurn v a r w = ActsOnce ExtendsPast size_of (λ p. no_marks) NamesAct v a r w

-- ---- what is always so of them

-- they are reached at an address, and their history is legal
abbrev pub IsLegalPast : Past → Type 0
IsLegalPast p = IsAddress p.home × Legal p.home p.history

-- that it is so can be shown in one way at most

answer_coded : Coded NameAnswer
answer_coded = answer.the_row.coded

accepted_prop : (s : Store) (e : NameChange) → IsProp (IsAccepted s e)
accepted_prop s e p q = λ i. record {
  change = Coded-set coded_bool _ _ p.change q.change i;
  answer = Coded-set answer_coded _ _ p.answer q.answer i;
}

legal_prop : (s : Store) (history : List NameChange) → IsProp (LegalFrom s history)
legal_prop s [] = Unit-prop
legal_prop s (e ∷ es) = ×_prop (accepted_prop s e) (legal_prop (after_change s e) es)

address_prop : (home : Address) → IsProp (IsAddress home)
address_prop home p q = λ i. record {
  plain = Coded-set coded_bool _ _ p.plain q.plain i;
  short = le_prop p.short q.short i;
  port = le_prop p.port q.port i;
}

pub sound_prop : (p : Past) → IsProp (IsLegalPast p)
sound_prop p = ×_prop (address_prop p.home) (legal_prop _ p.history)
