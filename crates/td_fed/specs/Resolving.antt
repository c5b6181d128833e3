-- What the names of links lead to, one after the other (OMG's Trading Object Service, interface Register, resolve).
use Rattle.std.specs.Prelude.{◌≡◌, ℕ, nat_le, Bool, true, false, ◌&&◌, List, [], ◌∷◌, ◌++◌, length, Option, None, Some}
use Rattle.std.specs.Prelude.{Result, Ok, Err, ◌<◌, ◌⊎◌}
use Rattle.td_cdr.specs.declared.memory.Memory.{Memory as OutOfMemory}
use Rattle.std.specs.List.{list_all}
use Rattle.td_cdr.specs.Marks.{Marks}
use Rattle.td_cdr.specs.Names.{word_name}
use Rattle.td_typecode.specs.declared.reference.Ior.{Ior}
use Rattle.td_exceptions.specs.declared.exception.UserException.TheVariants.{IllegalTraderName, UnknownTraderName}
use Rattle.td_targets.specs.Targets.{register_inside}
use Rattle.td_fed.specs.declared.resolving.Lead.{Lead}
use Rattle.td_fed.specs.declared.resolving.Lead.TheVariants as lead
use Rattle.td_fed.specs.declared.resolving.NameAnswer.{NameAnswer}
use Rattle.td_ops.specs.declared.outcome.Outcome.{Outcome}
use Rattle.td_ops.specs.declared.outcome.Outcome.TheVariants.{Done, User}
use Rattle.td_ops.specs.declared.outcome.Reply.{Reply}
use Rattle.td_ops.specs.declared.outcome.Reply.TheVariants as reply
use Rattle.td_ops.specs.declared.outcome.SystemKind.TheVariants.{NoMemory}
use Rattle.td_out.specs.Causes.{Rose}
use Rattle.td_register.specs.Causes.{system}
use Rattle.td_register.specs.declared.history.Accepted.{Accepted}
use Rattle.td_store.specs.LinkLists.{link_of}
use Rattle.td_store.specs.declared.record.LinkRecord.{LinkRecord}
use Rattle.td_trader.specs.Worlds.{Meanwhile, View, history_at, store_seen, with_view}
use Rattle.td_walk.specs.Peering.{Exchange, Failed, Referred, Resolving, is_memory}
use Rattle.td_walk.specs.declared.fault.PeerFault.{PeerFault}
use Rattle.td_walk.specs.declared.trace.Address.{Address}

-- ---- names

abbrev pub most_names : ℕ
most_names = 64

-- the name of a trader, as it is resolved: 1 to 64 names of links
abbrev pub is_path : List (List ℕ) → Bool
is_path [] = false
is_path (name ∷ names) = nat_le (length (name ∷ names)) most_names
    && list_all word_name (name ∷ names)

-- ---- a link

-- the register that a link has
abbrev pub register_of_link : Option LinkRecord → Option Ior
register_of_link None = None
register_of_link (Some l) = Some l.register

-- A name is looked up at a trader. What is told is the register of the link that has the name there then, if one has.
pub record LooksUp (others : List Accepted → Type 0) (later : Marks → Marks → Type 0)
    (w : List View) (k : ℕ) (name : List ℕ) (register : Option Ior) (u : List View) : Type 0 where
  pub seen : View
  pub meanwhile : Meanwhile others later w k seen
  pub content : register ≡ register_of_link (link_of (store_seen seen).links name)
  pub world : u ≡ with_view w k seen

-- ---- a register outside

-- It is asked for the names that are left. The reference that it gives is the result, or memory is refused then; and
-- where it gives none the name is unknown.
pub data IsAskedFor (point : ℕ) (whole rest : List (List ℕ)) (register : Ior)
    (calls : List Exchange) : NameAnswer
    → List Exchange → Type 0 where
  given : (r : Ior) → IsAskedFor point whole rest register calls
      (record { point = point; asked = Some (Ok r); outcome = Done (reply.Reference r) })
      (calls ++ record { call = Resolving register rest; gave = Referred r } ∷ [])
  no_memory_outcome : (r : Ior) → IsAskedFor point whole rest register calls
      (record { point = point; asked = Some (Ok r); outcome = system NoMemory })
      (calls ++ record { call = Resolving register rest; gave = Referred r } ∷ [])
  ungiven : (f : PeerFault) → is_memory f ≡ false → IsAskedFor point whole rest register calls
      (record { point = point; asked = Some (Err f); outcome = User (UnknownTraderName whole) })
      (calls ++ record { call = Resolving register rest; gave = Failed f } ∷ [])

-- ---- names that are followed

-- From trader k on. The point of an answer is that at which its first name was looked up.
pub data ResolvesFrom (others : List Accepted → Type 0) (later : Marks → Marks → Type 0)
    (home : Address)
    (whole : List (List ℕ)) (calls : List Exchange) : List View → ℕ → List (List ℕ) → NameAnswer
    → List View → List Exchange → Type 0 where
  -- no link has the name
  unknown : {w : List View} {k : ℕ} {name : List ℕ} {rest : List (List ℕ)} {u : List View}
      → LooksUp others later w k name None u
      → ResolvesFrom others later home whole calls w k (name ∷ rest)
      (record {
        point = length (history_at u k);
        asked = None;
        outcome = User (UnknownTraderName whole);
      }) u calls
  -- the last name gives its link's register
  named : {w : List View} {k : ℕ} {name : List ℕ} {u : List View} (register : Ior)
      → LooksUp others later w k name (Some register) u
      → ResolvesFrom others later home whole calls w k (name ∷ [])
      (record {
        point = length (history_at u k);
        asked = None;
        outcome = Done (reply.Reference register);
      }) u calls
  -- a register of the group looks the others up in the same way
  inside : {w : List View} {k : ℕ} {name : List ℕ} {rest : List (List ℕ)} {u : List View}
      {a : NameAnswer}
      {v : List View} {now : List Exchange} (register : Ior) (n : ℕ)
      → LooksUp others later w k name (Some register) u → register_inside home u register ≡ Some n
      → ResolvesFrom others later home whole calls u n rest a v now
      → ResolvesFrom others later home whole calls w k (name ∷ rest)
      (record { point = length (history_at u k); asked = a.asked; outcome = a.outcome }) v now
  -- any other register is asked for them
  outside : {w : List View} {k : ℕ} {name next : List ℕ} {rest : List (List ℕ)} {u : List View}
      {a : NameAnswer}
      {now : List Exchange} (register : Ior)
      → LooksUp others later w k name (Some register) u → register_inside home u register ≡ None
      → IsAskedFor (length (history_at u k)) whole (next ∷ rest) register calls a now
      → ResolvesFrom others later home whole calls w k (name ∷ next ∷ rest) a u now

-- What a name comes to at trader k, and the calls of peers that were made.
pub data Resolves (others : List Accepted → Type 0) (later : Marks → Marks → Type 0)
    (home : Address) (w : List View) (calls : List Exchange) (k : ℕ)
    (name : List (List ℕ)) : NameAnswer → List View → List Exchange → Type 0 where
  illegal : is_path name ≡ false
      → Resolves others later home w calls k name
      (record {
        point = length (history_at w k);
        asked = None;
        outcome = User (IllegalTraderName name);
      }) w calls
  followed : {a : NameAnswer} {u : List View} {now : List Exchange} → is_path name ≡ true
      → ResolvesFrom others later home name calls w k name a u now
      → Resolves others later home w calls k name a u now

-- ---- one name at a time

-- the register that a look at a link tells
abbrev pub link_register : Reply → Option Ior
link_register (reply.Link i) = Some i.target_reg
link_register other = None

abbrev pub register_in_outcome : Outcome → Option Ior
register_in_outcome (Done content) = link_register content
register_in_outcome other = None

-- a link was found whose register is one of the group, at which the others are looked up
pub record LeadsInside (others : List Accepted → Type 0) (later : Marks → Marks → Type 0)
    (home : Address) (w : List View) (k : ℕ) (name : List ℕ) (point n : ℕ)
    (u : List View) : Type 0 where
  pub register : Ior
  pub looks : LooksUp others later w k name (Some register) u
  pub is_inside : register_inside home u register ≡ Some n
  pub point_is : point ≡ length (history_at u k)

-- where a name leads, with those that are left: to an answer, or to a register of the group
abbrev pub PathLeads : (others : List Accepted → Type 0) → (later : Marks → Marks → Type 0)
    → Address
    → (whole : List (List ℕ)) → (calls : List Exchange) → List View → ℕ → (name : List ℕ)
    → (rest : List (List ℕ)) → Lead → List View → (now : List Exchange) → Type 0
PathLeads others later home whole calls w k name rest (lead.Ended a) u now =
    ResolvesFrom others later home whole calls w k (name ∷ rest) a u now
PathLeads others later home whole calls w k name rest (lead.Inside point n) u now =
    LeadsInside others later home w k name point n u × (0 < length rest) × (now ≡ calls)

-- ---- what a register outside gave

abbrev pub with_outcome : (point : ℕ) → Ior → Outcome → NameAnswer
with_outcome point r o = record { point = point; asked = Some (Ok r); outcome = o }

-- a reference, which is the result where there is memory for it
abbrev pub IsReferenceGiven : (point : ℕ) → Ior → NameAnswer → Type 0
IsReferenceGiven point r a =
    (a ≡ with_outcome point r (Done (reply.Reference r)))
    ⊎ (a ≡ with_outcome point r (system NoMemory))

abbrev pub unfound : (point : ℕ) → PeerFault → (whole : List (List ℕ)) → NameAnswer
unfound point f whole = record {
  point = point;
  asked = Some (Err f);
  outcome = User (UnknownTraderName whole);
}

-- none, or it ran out of memory
abbrev pub IsUngiven : (point : ℕ) → PeerFault → (whole : List (List ℕ))
    → Result NameAnswer OutOfMemory
    → Type 0
IsUngiven point f whole (Ok a) = (is_memory f ≡ false) × (a ≡ unfound point f whole)
IsUngiven point f whole (Err e) = is_memory f ≡ true

-- a register outside that gave none had failed: the count of faults rose
abbrev pub RoseIfUngiven : Option (Result Ior PeerFault) → (faults now : ℕ) → Type 0
RoseIfUngiven None faults now = Unit {0}
RoseIfUngiven (Some (Ok r)) faults now = Unit {0}
RoseIfUngiven (Some (Err f)) faults now = Rose faults now
