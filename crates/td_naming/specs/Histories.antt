-- The history of a naming store: the changes that were accepted since it was the root alone, each with its reply.
use Rattle.std.specs.Prelude.{◌≡◌, ℕ, Bool, true, cond, ◌&&◌, not, List, [], ◌∷◌, ◌++◌, Option, Some, None}
use Rattle.td_names.specs.Applying.{apply_act, next_number}
use Rattle.td_names.specs.Changing.{is_change, makes_context}
use Rattle.td_names.specs.References.{reference_of}
use Rattle.td_names.specs.Refusing.{is_refusal}
use Rattle.td_names.specs.Stores.{Store, start}
use Rattle.td_names.specs.declared.act.NameAct.{NameAct}
use Rattle.td_names.specs.declared.act.NameAnswer.{NameAnswer}
use Rattle.td_names.specs.declared.act.NameAnswer.TheVariants.{Done}
use Rattle.td_names.specs.declared.act.NameReply.{NameReply}
use Rattle.td_names.specs.declared.act.NameReply.TheVariants as reply
use Rattle.td_names.specs.declared.address.Address.{Address}
use Rattle.td_naming.specs.declared.history.NameChange.{NameChange}

-- ---- one change

-- the number of the context that an accepted call makes
abbrev pub made_by : Store → NameAct → Option ℕ
made_by s a = cond (makes_context a) (Some (next_number s)) None

-- a call that is accepted at this store, as it is remembered
abbrev pub change_at : Store → ℕ → NameAct → NameChange
change_at s c a = record { context = c; act = a; made = made_by s a }

-- the reply of a change
abbrev pub reply_of : Address → Option ℕ → NameReply
reply_of home None = reply.Nothing
reply_of home (Some n) = reply.Object (reference_of home n)

-- a call that was answered so is an accepted change
abbrev pub is_accepted : NameAct → NameAnswer → Bool
is_accepted a r = is_change a && not (is_refusal r)

-- the history with the call, where it is an accepted change
abbrev pub add_accepted : List NameChange → Store → ℕ → NameAct → NameAnswer → List NameChange
add_accepted h s c a r = cond (is_accepted a r) (h ++ change_at s c a ∷ []) h

-- ---- the store behind a history

abbrev pub after_change : Store → NameChange → Store
after_change s e = (apply_act s e.context e.act).0

abbrev pub after_all : Store → List NameChange → Store
after_all s [] = s
after_all s (e ∷ es) = after_all (after_change s e) es

abbrev pub store_after : Address → List NameChange → Store
store_after home history = after_all (start home) history

-- ---- histories that are legal

-- the change is accepted at this store, and has its reply there
pub record IsAccepted (s : Store) (e : NameChange) : Type 0 where
  pub change : is_change e.act ≡ true
  pub answer : (apply_act s e.context e.act).1 ≡ Done (reply_of s.home e.made)

-- each change is accepted where those before it lead to
abbrev pub LegalFrom : Store → List NameChange → Type 0
LegalFrom s [] = Unit {0}
LegalFrom s (e ∷ es) = IsAccepted s e × LegalFrom (after_change s e) es

abbrev pub Legal : Address → List NameChange → Type 0
Legal home history = LegalFrom (start home) history

-- ---- what is remembered

-- where the server listens, and the history
pub record Past : Type 0 where
  pub home : Address
  pub history : List NameChange

abbrev pub past : Address → List NameChange → Past
past home history = record { home = home; history = history }

-- the store is the one behind the history, which is legal
pub record Remembers (s : Store) (history : List NameChange) : Type 0 where
  pub legal : Legal s.home history
  pub store : s ≡ store_after s.home history

-- a call of the store was answered so, and is noted where it is an accepted change
pub record Records (s : Store) (h : List NameChange) (c : ℕ) (a : NameAct) (r : NameAnswer)
    (t : Store) (k : List NameChange) : Type 0 where
  pub applied : (t, r) ≡ apply_act s c a
  pub noted : k ≡ add_accepted h s c a r
