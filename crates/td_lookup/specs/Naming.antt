-- What is answered to names of links (OMG's Trading Object Service, interface Register, resolve).
use Rattle.std.specs.Prelude.{◌≡◌, ℕ, List, Option, None, Some, Result}
use Rattle.td_cdr.specs.Marks.{Marks}
use Rattle.td_typecode.specs.declared.reference.Ior.{Ior}
use Rattle.td_fed.specs.Resolving.{Resolves}
use Rattle.td_fed.specs.declared.resolving.NameAnswer.{NameAnswer}
use Rattle.td_lookup.specs.Scenes.{Scene}
use Rattle.td_ops.specs.declared.outcome.Outcome.{Outcome}
use Rattle.td_register.specs.declared.history.Accepted.{Accepted}
use Rattle.td_servant.specs.declared.entry.Entry.{Entry}
use Rattle.td_servant.specs.declared.entry.Entry.TheVariants.{Asked, Point}
use Rattle.td_walk.specs.declared.fault.PeerFault.{PeerFault}
use Rattle.td_walk.specs.declared.trace.Address.{Address}
use Rattle.td_query_walk.specs.Faults.{CountsFaults}

-- what is noted of names that were looked up: what a register outside gave, where one was asked
abbrev pub name_entry : (k point : ℕ) → Option (Result Ior PeerFault) → Entry
name_entry k point None = Point k point
name_entry k point (Some gave) = Asked k point gave

module _ (others : List Accepted → Type 0) (later : Marks → Marks → Type 0) (home : Address) where
  -- What the names of links lead to. Where a register outside was asked in vain, the count of faults rose.
  pub record NameComes (s : Scene) (k : ℕ) (names : List (List ℕ)) (o : Outcome) (e : Entry)
      (t : Scene) : Type 0 where
    pub answer : NameAnswer
    pub resolves : Resolves others later home s.world s.peers.calls k names answer t.world
        t.peers.calls
    pub faults : CountsFaults s.peers.calls t.peers.calls s.peers.faults t.peers.faults
    pub outcome : o ≡ answer.outcome
    pub noted : e ≡ name_entry k answer.point answer.asked
    pub desk : t.desk ≡ s.desk
    pub words : t.words ≡ s.words
