-- What add_link comes to (OMG's Trading Object Service, interface Link). The register of its target, without
-- which no link is added, is known here where the target is a trader of the group; the target itself is asked for it
-- where it is one outside.
use Rattle.std.specs.Prelude.{◌≡◌, ℕ, false, if◌then◌else◌, List, length, Option, None, Some, Result, Ok, Err}
use Rattle.std.specs.Prelude.{IfErr}
use Rattle.td_cdr.specs.Marks.{Marks}
use Rattle.td_typecode.specs.declared.reference.Ior.{Ior}
use Rattle.td_ior.specs.Nil.{is_nil}
use Rattle.td_objects.specs.References.{register_reference}
use Rattle.td_ops.specs.declared.call.AddLink.{AddLink}
use Rattle.td_ops.specs.declared.call.Change.{Change}
use Rattle.td_ops.specs.declared.call.Change.TheVariants as change
use Rattle.td_ops.specs.declared.outcome.Outcome.{Outcome}
use Rattle.td_register.specs.declared.history.Accepted.{Accepted}
use Rattle.td_trader.specs.Worlds.{ChangesTrader, View, history_at, name_at}
use Rattle.td_walk.specs.Peering.{Exchange, IsNoted, Referred, RegisterOf, is_memory}
use Rattle.td_walk.specs.declared.fault.PeerFault.{PeerFault}
use Rattle.td_walk.specs.declared.trace.Address.{Address}
use Rattle.td_servant.specs.Answers.{no_memory}
use Rattle.td_servant.specs.Changing.{ChangeComes, Rests}
use Rattle.td_servant.specs.Targets.{target_of}
use Rattle.td_servant.specs.declared.entry.Entry.{Entry}
use Rattle.td_servant.specs.declared.entry.Entry.TheVariants.{Asked}
use Rattle.td_servant.specs.declared.target.Target.{Target}
use Rattle.td_servant.specs.declared.target.Target.TheVariants.{Inside, Outside, Unreachable}

-- what a peer outside gave
abbrev pub Gave : Type 0
Gave = Result Ior PeerFault

-- the register that it named; a nil reference names none
abbrev pub register_given : Gave → Option Ior
register_given (Ok r) = if is_nil r then None else Some r
register_given (Err f) = None

-- the change that the call comes to, once the register is known
abbrev pub link_change : AddLink → (register : Option Ior) → Change
link_change a register = change.AddLink a.name a.target a.def_pass_on a.limiting register

-- the peers: which calls were made of them, with what each gave, and how many faults there were
pub record PeersSeen : Type 0 where
  pub calls : List Exchange
  pub faults : ℕ

abbrev pub peers_seen : List Exchange → ℕ → PeersSeen
peers_seen calls faults = record { calls = calls; faults = faults }

module _ (others : List Accepted → Type 0) (later : Marks → Marks → Type 0) where
  -- The change comes to what it would at any time; what a peer gave is noted with its point.
  pub record ChangeNoted (w : List View) (k : ℕ) (c : Change) (gave : Gave) (o : Outcome)
      (e : Entry) (u : List View) : Type 0 where
    pub changes : ChangesTrader others later w k c o u
    pub noted : e ≡ Asked k (length changes.seen.history) gave

  -- what a peer gave is the register of the change
  abbrev pub LinkedAs : (w : List View) → (k : ℕ) → AddLink → Gave → Outcome → Entry
      → (u : List View) → Type 0
  LinkedAs w k l gave o e u = ChangeNoted w k (link_change l (register_given gave)) gave o e u

  -- The target is asked for its register first of all, once.
  pub record RegisterAsked (w : List View) (k : ℕ) (l : AddLink) (before after : PeersSeen)
      (o : Outcome) (e : Entry) (u : List View) : Type 0 where
    pub gave : Gave
    pub asked : IsNoted (λ r. Referred r)
        (RegisterOf l.target) before.calls after.calls before.faults after.faults gave
    pub answered : IfErr gave (λ f. is_memory f ≡ false)
    pub linked : LinkedAs w k l gave o e u

  abbrev pub AddLinkBy : Target → Address → (w : List View) → ℕ → AddLink
      → (before after : PeersSeen) → Outcome → Entry → (u : List View) → Type 0
  AddLinkBy (Inside j) home w k l before after o e u =
      ChangeComes others later w k (link_change l (Some (register_reference home (name_at w j))))
      o e u
      × (after ≡ before)
  AddLinkBy Unreachable home w k l before after o e u =
      ChangeComes others later w k (link_change l None) o e u × (after ≡ before)
  AddLinkBy Outside home w k l before after o e u = RegisterAsked w k l before after o e u

  -- what add_link comes to, by where its target is
  abbrev pub AddLinkComes : Address → (w : List View) → (k : ℕ) → AddLink
      → (before after : PeersSeen) → Outcome → Entry → (u : List View) → Type 0
  AddLinkComes home w k l before after o e u =
      AddLinkBy (target_of home w l.target) home w k l before after o e u

  -- ---- memory ran out once a peer had answered

  -- NO_MEMORY; what the peer gave is noted with how many changes are seen
  pub record NotedInVain (w : List View) (k : ℕ) (gave : Gave) (o : Outcome) (e : Entry)
      (u : List View) : Type 0 where
    pub rests : Rests others later w k u
    pub outcome : o ≡ no_memory
    pub noted : e ≡ Asked k (length (history_at u k)) gave

  -- The target, one outside, was asked for its register, and then memory ran out.
  pub record AskedInVain (home : Address) (w : List View) (k : ℕ) (l : AddLink)
      (before after : PeersSeen) (o : Outcome) (e : Entry) (u : List View) : Type 0 where
    pub outside : target_of home w l.target ≡ Outside
    pub gave : Gave
    pub asked : IsNoted (λ r. Referred r)
        (RegisterOf l.target) before.calls after.calls before.faults after.faults gave
    pub answered : IfErr gave (λ f. is_memory f ≡ false)
    pub noted : NotedInVain w k gave o e u
