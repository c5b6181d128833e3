-- Each change, and each history: what it comes to can be written.
use Rattle.std.proofs.Common.{ℕ, zero, suc, ◌+◌, List, [], ◌∷◌, take, Some, None, refl, subst}
use Rattle.td_cdr.specs.Sound.{◌&◌, boolean, sequence, text, ulong}
use Rattle.td_typecode.specs.References.{reference}
use Rattle.td_ops.specs.Answers.{AdmitsOutcome}
use Rattle.td_ops.specs.Called.{change_operation}
use Rattle.td_ops.specs.declared.call.Change.{Change}
use Rattle.td_ops.specs.declared.call.Change.TheVariants as change
use Rattle.td_register.specs.Causes.{ChangeResult, effect_of}
use Rattle.td_register.specs.Stores.{Store}
use Rattle.td_register.specs.declared.history.Accepted.{Accepted}
use Rattle.td_changes.specs.Applying.{acceptance, apply, cause_of, comes_to, count_change, is_at_limit, with_change}
use Rattle.td_changes.specs.Histories.{LegalFrom, after_all}
use Rattle.td_trader_laws.specs.Writable.{ChangesStayWritable, CountedChangesStayWritable}
use Rattle.td_trader.proofs.ReadAdmitted.{parameters}
use Rattle.td_trader.specs.Admitted.{AdmitsChange, AreAdmitted}
use Rattle.td_trader_laws.specs.Writable.{HistoriesStayWritable, IsWritableStore, IsWritten}
use Rattle.td_trader_laws.specs.Writable.{RepliesAreWritable}
use Rattle.td_trader_laws.proofs.Admitting.{AdmitsComes, applied-outcome, applied-store, counted-admitted}
use Rattle.td_trader_laws.proofs.AdmittingAttributes.{sets-follow, sets-number, sets-stem, sets-truth}
use Rattle.td_trader_laws.proofs.AdmittingLinks as links
use Rattle.td_trader_laws.proofs.AdmittingOffers.{exports, exports-proxy, modifies, withdraws, withdraws-met}
use Rattle.td_trader_laws.proofs.AdmittingOffers.{withdraws-proxy}
use Rattle.td_trader_laws.proofs.AdmittingTypes as types
use Rattle.td_value.specs.Enumerations.{follow_option}
use Rattle.td_value.specs.Structures.{policy, prop_struct, property}

comes-admitted : (s : Store) (c : Change) → IsWritableStore s → AdmitsChange c
    → AdmitsComes (change_operation c) (comes_to s c)
comes-admitted s (change.Export object type_name ps) w h =
    exports s object type_name ps w
    (parameters (λ p. change.Export p.0 p.1.0 p.1.1) (elim [ change.Export x y z ↦ Some (x, (y, z)) | _ ↦ None ])
    (reference & text & sequence property) (object, (type_name, ps)) (λ _. refl) h)
comes-admitted s (change.Withdraw id) w h =
    withdraws s id w
    (parameters (λ p. change.Withdraw p) (elim [ change.Withdraw x ↦ Some x | _ ↦ None ]) text id (λ _. refl) h)
comes-admitted s (change.Modify id deleted changed) w h =
    modifies s id deleted changed w
    (parameters (λ p. change.Modify p.0 p.1.0 p.1.1) (elim [ change.Modify x y z ↦ Some (x, (y, z)) | _ ↦ None ])
    (text & sequence text & sequence property) (id, (deleted, changed)) (λ _. refl) h)
comes-admitted s (change.WithdrawUsingConstraint type_name constraint) w h =
    withdraws-met s type_name constraint w
    (parameters (λ p. change.WithdrawUsingConstraint p.0 p.1)
    (elim [ change.WithdrawUsingConstraint x y ↦ Some (x, y) | _ ↦ None ]) (text & text) (type_name, constraint)
    (λ _. refl) h)
comes-admitted s (change.AddLink name target def_pass_on limiting register) w h =
    links.adds s name target def_pass_on limiting w register h
comes-admitted s (change.RemoveLink name) w h =
    links.removes s name w
    (parameters (λ p. change.RemoveLink p) (elim [ change.RemoveLink x ↦ Some x | _ ↦ None ]) text name (λ _. refl) h)
comes-admitted s (change.ModifyLink name def_pass_on limiting) w h =
    links.rules s name def_pass_on limiting w
    (parameters (λ p. change.ModifyLink p.0 p.1.0 p.1.1)
    (elim [ change.ModifyLink x y z ↦ Some (x, (y, z)) | _ ↦ None ]) (text & follow_option & follow_option)
    (name, (def_pass_on, limiting)) (λ _. refl) h).0
comes-admitted s (change.ExportProxy target type_name ps if_match_all recipe policies) w h =
    exports-proxy s target type_name ps if_match_all recipe policies w
    (parameters (λ p. change.ExportProxy p.0 p.1.0 p.1.1.0 p.1.1.1.0 p.1.1.1.1.0 p.1.1.1.1.1)
    (elim [ change.ExportProxy x y z u v w ↦ Some (x, (y, (z, (u, (v, w))))) | _ ↦ None ])
    (reference & text & sequence property & boolean & text & sequence policy)
    (target, (type_name, (ps, (if_match_all, (recipe, policies))))) (λ _. refl) h)
comes-admitted s (change.WithdrawProxy id) w h =
    withdraws-proxy s id w
    (parameters (λ p. change.WithdrawProxy p) (elim [ change.WithdrawProxy x ↦ Some x | _ ↦ None ]) text id
    (λ _. refl) h)
comes-admitted s (change.SetTruth which value) w h = sets-truth s which value w
comes-admitted s (change.SetNumber which value) w h =
    sets-number s which value w
    (parameters (λ v. change.SetNumber which v) (elim [ change.SetNumber _ v ↦ Some v | _ ↦ None ]) ulong value
    (λ _. refl) h)
comes-admitted s (change.SetFollow which value) w h = sets-follow s which value w
comes-admitted s (change.SetRequestIdStem value) w h = sets-stem s value w
comes-admitted s (change.AddType name if_name props supers) w h =
    types.adds s name if_name props supers w
    (parameters (λ p. change.AddType p.0 p.1.0 p.1.1.0 p.1.1.1)
    (elim [ change.AddType x y z u ↦ Some (x, (y, (z, u))) | _ ↦ None ])
    (text & text & sequence prop_struct & sequence text) (name, (if_name, (props, supers))) (λ _. refl) h)
comes-admitted s (change.RemoveType name) w h =
    types.removes s name w
    (parameters (λ p. change.RemoveType p) (elim [ change.RemoveType x ↦ Some x | _ ↦ None ]) text name (λ _. refl) h)
comes-admitted s (change.MaskType name) w h =
    types.masks s name w
    (parameters (λ p. change.MaskType p) (elim [ change.MaskType x ↦ Some x | _ ↦ None ]) text name (λ _. refl) h)
comes-admitted s (change.UnmaskType name) w h =
    types.unmasks s name w
    (parameters (λ p. change.UnmaskType p) (elim [ change.UnmaskType x ↦ Some x | _ ↦ None ]) text name (λ _. refl) h)

written : (s : Store) (c : Change) (r : ChangeResult) → IsWritableStore s → AdmitsComes (change_operation c) r
    → IsWritten c (effect_of s r)
written s c r w h = record {
  outcome = applied-outcome (change_operation c) s r h;
  store = applied-store (change_operation c) s r w h;
}

pub changes : ChangesStayWritable
changes s c w h = written s c (comes_to s c) w (comes-admitted s c w h)

pub counted-changes : CountedChangesStayWritable
unfolding count_change comes_to
counted-changes bounds count s c w h =
    written s c (count_change bounds count s c) w
    (counted-admitted (change_operation c) (is_at_limit bounds count) (cause_of s c) (acceptance s c) (with_change s c)
    (comes-admitted s c w h))

-- ---- histories

pub after-written : (s : Store) (history : List Accepted) → IsWritableStore s → AreAdmitted history
    → IsWritableStore (after_all s history)
unfolding after_all
after-written s [] w h = w
after-written s (e ∷ history) w h =
    after-written (apply s e.change).store history (changes s e.change w h.0).store h.1

front : (point : ℕ) (history : List Accepted) → AreAdmitted history → AreAdmitted (take point history)
front zero history h = tt
front (suc point) [] h = tt
front (suc point) (e ∷ history) h = (h.0, front point history h.1)

pub histories : HistoriesStayWritable
histories opening history point w h = after-written opening (take point history) w (front point history h)

pub replies : RepliesAreWritable
unfolding LegalFrom
replies bounds count s [] w h l = tt
replies bounds count s (e ∷ history) w h l = (
  subst (AdmitsOutcome (change_operation e.change)) l.0 (counted-changes bounds count s e.change w h.0).outcome,
  replies bounds (count + 1) (apply s e.change).store history (changes s e.change w h.0).store h.1 l.1,
)
