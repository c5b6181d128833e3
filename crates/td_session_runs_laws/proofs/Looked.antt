-- What looks come to can be written: a list's first batch, and what is left of it to an iterator.
use Rattle.std.proofs.Common.{◌≡◌, ℕ, List, [], ◌∷◌, take, drop, min, refl, sym}
use Rattle.std.proofs.Common.{subst}
use Rattle.td_cdr.specs.Marks.{Marks}
use Rattle.td_cdr.specs.Sound.{sequence, text}
use Rattle.td_cdr.specs.Writing.{Draft}
use Rattle.td_typecode.specs.Formats.{is_nonempty}
use Rattle.td_typecode.specs.References.{reference}
use Rattle.td_typecode.specs.declared.reference.Ior.{Ior}
use Rattle.td_ior.specs.Keys.{written_key}
use Rattle.td_iter.specs.Desks.{Live}
use Rattle.td_iter.specs.Heads.{given_or_nil}
use Rattle.td_iter.specs.declared.item.Item.TheVariants.{Ids}
use Rattle.td_objects.specs.Interfaces.{interface_id}
use Rattle.td_objects.specs.References.{iterator_reference}
use Rattle.td_objects.specs.declared.interface.Interface.TheVariants.{OfferIdIterator}
use Rattle.td_ops.specs.Answers.{AdmitsOutcome}
use Rattle.td_ops.specs.Called.{look_operation}
use Rattle.td_ops.specs.declared.call.Look.{Look}
use Rattle.td_ops.specs.declared.operation.Operation.{Operation}
use Rattle.td_ops.specs.declared.outcome.Outcome.{Outcome}
use Rattle.td_ops.specs.declared.outcome.Outcome.TheVariants.{Done}
use Rattle.td_ops.specs.declared.outcome.Reply.TheVariants as reply
use Rattle.td_register.specs.declared.history.Accepted.{Accepted}
use Rattle.td_servant.specs.Looking.{CutsList, IsFirstIds, LookComes, first_ids, how_many, ids_in, kept_for}
use Rattle.td_servant.specs.declared.entry.Entry.{Entry}
use Rattle.td_trader.specs.Worlds.{View, name_at}
use Rattle.td_trader_laws.proofs.WritingWorlds.{worlds-look}
use Rattle.td_trader_laws.specs.Writable.{AdmitsLook}
use Rattle.td_trader_laws.specs.WritableWorlds.{IsWritableWorld, OthersAreAdmitted}
use Rattle.td_session_runs_laws.proofs.Desks.{added-writes}
use Rattle.td_session_runs_laws.proofs.Parts.{given-writes, sequence-behind, sequence-front}
use Rattle.td_servant.proofs.Admitted.{made_writes}
use Rattle.td_session_runs_laws.specs.Writable.{IsWritableDesk}
use Rattle.td_value.specs.declared.key.Kind.TheVariants as kind
use Rattle.td_walk.specs.declared.trace.Address.{Address}

-- the iterator's reference, where ids are left
pub iterator-writes : (home : Address) (name : List ℕ) (n : ℕ)
    → reference.format.admits (iterator_reference home name n)
iterator-writes home name n =
    made_writes (interface_id OfferIdIterator) home.host home.port
    (written_key (record { trader = name; kind = kind.Iterator n })) home.minor refl

kept-writes : (name : List ℕ) (left : List (List ℕ)) (d : Live) → IsWritableDesk d
    → (sequence text).format.admits left → IsWritableDesk (kept_for name left d)
kept-writes name [] d h i = h
kept-writes name (id ∷ left) d h i = added-writes name (Ids (id ∷ left)) d h i

-- what stays of a call, and of the iterators
abbrev Stays : Operation → Outcome → Live → Type 0
Stays operation o after = AdmitsOutcome operation o × IsWritableDesk after

same-ids : (xs ys : List (List ℕ)) (r s : Ior) → reply.Ids xs r ≡ reply.Ids ys s → xs ≡ ys
same-ids xs ys r s h = cc

first-writes : (operation : Operation) (home : Address) (name : List ℕ) (n : ℕ) (ids : List (List ℕ)) (r : Ior)
    (draft : Draft) (d : Live) (o : Outcome) (after : Live) → AdmitsOutcome operation (Done (reply.Ids ids r))
    → IsWritableDesk d → IsFirstIds home name n ids draft d o after → Stays operation o after
first-writes operation home name n ids r draft d o after h w f =
    let all : (sequence text).format.admits ids =
    subst (sequence text).format.admits (same-ids h.1.0.0 ids h.1.0.1 r h.1.1) h.1.2.0 in
    let iterator = given_or_nil (iterator_reference home name d.1) (is_nonempty (drop f.count ids)) in
    let content : AdmitsOutcome operation (first_ids home name d.1 ids f.count) = (
      h.0,
      (
        (take f.count ids, iterator),
        refl,
        (
          sequence-front text f.count ids all,
          given-writes (iterator_reference home name d.1) (is_nonempty (drop f.count ids))
              (iterator-writes home name d.1),
        ),
      ),
    ) in (
      subst (AdmitsOutcome operation) (sym f.outcome) content,
      subst IsWritableDesk (sym f.kept)
          (kept-writes name (drop f.count ids) d w (sequence-behind text f.count ids all)),
    )

cut-writes : (operation : Operation) (home : Address) (name : List ℕ) (n : ℕ) (found : Outcome) (draft : Draft)
    (d : Live) (o : Outcome) (after : Live) → AdmitsOutcome operation found → IsWritableDesk d
    → CutsList home name n (ids_in found) found draft d o after → Stays operation o after
cut-writes operation home name n (Done (reply.Ids ids r)) draft d o after h w f =
    first-writes operation home name n ids r draft d o after h w f
cut-writes operation home name n found draft d o after h w f =
    (subst (AdmitsOutcome operation) (sym f.0) h, subst IsWritableDesk (sym f.1) w)

module _ (others : List Accepted → Type 0) (later : Marks → Marks → Type 0) (home : Address) where
  pub look-writes : (w : List View) (d : Live) (k : ℕ) (l : Look) (draft : Draft) (o : Outcome) (e : Entry)
      (u : List View) (after : Live) → OthersAreAdmitted others → IsWritableWorld w → IsWritableDesk d → AdmitsLook l
      → LookComes others later home w d k l draft o e u after
      → AdmitsOutcome (look_operation l) o × IsWritableWorld u × IsWritableDesk after
  look-writes w d k l draft o e u after admitted h desk p r =
      let looked = worlds-look others later admitted w u k l (r.found, r.max_list) h p r.looks in
      let cut =
      cut-writes (look_operation l) home (name_at u k) (min (how_many l) r.max_list) r.found draft d o after looked.0
      desk r.cuts in
      (cut.0, looked.1, cut.1)
