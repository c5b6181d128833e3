-- What add_link comes to can be written: the register of its link is the server's own, one that a peer gave, or none.
use Rattle.std.proofs.Common.{ℕ, List, length, Option, Some, None, Ok, Err, refl, subst}
use Rattle.td_cdr.specs.Marks.{Marks}
use Rattle.td_typecode.specs.declared.reference.Ior.{Ior}
use Rattle.td_lookup.specs.NoMemory.{gave_in}
use Rattle.td_objects.specs.References.{register_reference}
use Rattle.td_ops.specs.Answers.{AdmitsOutcome}
use Rattle.td_ops.specs.Parameters.{add_link}
use Rattle.td_ops.specs.declared.call.AddLink.{AddLink}
use Rattle.td_ops.specs.declared.operation.LinkOperation.TheVariants as link
use Rattle.td_ops.specs.declared.operation.Operation.TheVariants.{Link}
use Rattle.td_ops.specs.declared.outcome.Outcome.{Outcome}
use Rattle.td_register.specs.declared.history.Accepted.{Accepted}
use Rattle.td_servant.specs.Linking.{AddLinkBy, AddLinkComes, Gave, PeersSeen, link_change, register_given}
use Rattle.td_servant.specs.Targets.{target_of}
use Rattle.td_servant.specs.declared.entry.Entry.{Entry}
use Rattle.td_servant.specs.declared.entry.Entry.TheVariants.{Asked}
use Rattle.td_servant.specs.declared.target.Target.{Target}
use Rattle.td_servant.specs.declared.target.Target.TheVariants.{Inside, Outside, Unreachable}
use Rattle.td_trader.specs.Worlds.{ChangesTrader, View, name_at}
use Rattle.td_trader_laws.proofs.WritingWorlds.{worlds-change}
use Rattle.td_trader.specs.Admitted.{AdmitsRegister}
use Rattle.td_trader_laws.specs.WritableWorlds.{IsWritableWorld, OthersAreAdmitted}
use Rattle.td_servant.proofs.Admitted.{register_admitted, register_writes}
use Rattle.td_walk.specs.Peering.{AdmitsGifts}
use Rattle.td_walk.specs.declared.trace.Address.{Address}

-- what a peer gave
given-register : (k point : ℕ) (gave : Gave) → AdmitsGifts (gave_in (Asked k point gave))
    → AdmitsRegister (register_given gave)
given-register k point (Ok r) h = register_admitted (Ok r) (register_given (Ok r)) refl h.0
given-register k point (Err f) h = tt

module _ (others : List Accepted → Type 0) (later : Marks → Marks → Type 0) (home : Address) where
  linked : (w : List View) (k : ℕ) (l : AddLink) (register : Option Ior) (o : Outcome) (u : List View)
      → OthersAreAdmitted others → IsWritableWorld w → add_link.format.admits l → AdmitsRegister register
      → ChangesTrader others later w k (link_change l register) o u
      → AdmitsOutcome (Link link.AddLink) o × IsWritableWorld u
  linked w k l register o u admitted h p r c =
      worlds-change others later admitted w u k (link_change l register) o h (p, r) c

  by-target : (t : Target) (w : List View) (k : ℕ) (l : AddLink) (before after : PeersSeen) (o : Outcome) (e : Entry)
      (u : List View) → OthersAreAdmitted others → IsWritableWorld w → add_link.format.admits l
      → AdmitsGifts (gave_in e) → AddLinkBy others later t home w k l before after o e u
      → AdmitsOutcome (Link link.AddLink) o × IsWritableWorld u
  by-target (Inside j) w k l before after o e u admitted h p g r =
      linked w k l (Some (register_reference home (name_at w j))) o u admitted h p
      (register_writes home (name_at w j)) r.0.changes
  by-target Unreachable w k l before after o e u admitted h p g r = linked w k l None o u admitted h p tt r.0.changes
  by-target Outside w k l before after o e u admitted h p g r =
      let noted = subst (λ (x : Entry). AdmitsGifts (gave_in x)) r.linked.noted g in
      let point = length r.linked.changes.seen.history in
      linked w k l (register_given r.gave) o u admitted h p (given-register k point r.gave noted) r.linked.changes

  pub link-writes : (w : List View) (k : ℕ) (l : AddLink) (before after : PeersSeen) (o : Outcome) (e : Entry)
      (u : List View) → OthersAreAdmitted others → IsWritableWorld w → add_link.format.admits l
      → AdmitsGifts (gave_in e) → AddLinkComes others later home w k l before after o e u
      → AdmitsOutcome (Link link.AddLink) o × IsWritableWorld u
  link-writes w k l before after o e u admitted h p g r =
      by-target (target_of home w l.target) w k l before after o e u admitted h p g r
