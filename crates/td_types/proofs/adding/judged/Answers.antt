use Rattle.std.proofs.Common.{◌∙◌, List, [], true, ap, sym, Bor}
use Rattle.std.proofs.lemmas.Result.{err_from_is_err_and}
use Rattle.td_types.proofs.Adds.{fails_fourth, fails_not, definitions_are}
use Rattle.td_types.proofs.Redefined.{passes, entries_of}
use Rattle.td_types.specs.Adding.{name_fault, property_fault, supers_fault, redefinition, definitions}
use Rattle.td_types.specs.Adding.{inherited_definitions}
use Rattle.td_types.specs.Calls.{add_fault}
use Rattle.td_types.specs.Judged.{AreBases, inherited_from}
use Rattle.td_types.specs.Kept.{repository}
use Rattle.td_types.specs.declared.entry.TypeEntry.{TypeEntry}
use Rattle.td_types.proofs.adding.judged.Goals as goal

pub returns-in_err-check_redefinitions : goal.returns-in_err-check_redefinitions
returns-in_err-check_redefinitions c =
    let p =
    err_from_is_err_and c.from_residual-in_err-check_redefinitions.result
    c.from_residual-in_err-check_redefinitions.ensures.1 in
    rw (p.1, p.2) (passes {X = Unit {0}} {Y = List (Bor TypeEntry)} (λ _. Unit {0})
    (λ (bases : List (Bor TypeEntry)). AreBases c.args.entries.now c.args.supers.now (entries_of bases))
    (redefinition (definitions c.args.name.now true c.args.props.now)
    (inherited_from (entries_of c.as_slice.result.now)))
    (add_fault (repository c.args.entries.now c.args.interfaces.now 0) c.args.name.now c.args.if_name.now
    c.args.props.now c.args.supers.now)
    c.in_err-check_redefinitions.field-0.0
    (λ f h. fails_fourth (name_fault (repository c.args.entries.now c.args.interfaces.now 0) c.args.name.now)
    (property_fault [] c.args.props.now)
    (supers_fault (repository c.args.entries.now c.args.interfaces.now 0) c.args.name.now c.args.if_name.now []
    c.args.supers.now)
    (redefinition (definitions c.args.name.now true c.args.props.now)
    (inherited_definitions (repository c.args.entries.now c.args.interfaces.now 0) c.args.supers.now))
    (redefinition (definitions c.args.name.now true c.args.props.now)
    (inherited_from (entries_of c.in_ok-bases.bases)))
    f c.in_ok-check_name.ensures.0 c.in_ok-check_properties.ensures.0 c.in_ok-bases.ensures.0
    (ap (redefinition (definitions c.args.name.now true c.args.props.now))
    (definitions_are c.args.entries.now c.args.entries.now c.args.interfaces.now 0 c.args.supers.now
    (entries_of c.in_ok-bases.bases) c.requires c.in_ok-bases.ensures.1))
    (ap (λ (bases : List (Bor TypeEntry)).
    redefinition (definitions c.args.name.now true c.args.props.now) (inherited_from (entries_of bases)))
    (sym c.as_slice.ensures)
    ∙ h))
    c.in_err-check_redefinitions.ensures)

pub returns : goal.returns
returns c = (
  fails_not (name_fault (repository c.args.entries.now c.args.interfaces.now 0) c.args.name.now)
      (property_fault [] c.args.props.now)
      (supers_fault (repository c.args.entries.now c.args.interfaces.now 0) c.args.name.now c.args.if_name.now []
      c.args.supers.now)
      (redefinition (definitions c.args.name.now true c.args.props.now)
      (inherited_definitions (repository c.args.entries.now c.args.interfaces.now 0) c.args.supers.now))
      (redefinition (definitions c.args.name.now true c.args.props.now)
      (inherited_from (entries_of c.in_ok-bases.bases)))
      c.in_ok-check_name.ensures.0 c.in_ok-check_properties.ensures.0 c.in_ok-bases.ensures.0
      (ap (redefinition (definitions c.args.name.now true c.args.props.now))
      (definitions_are c.args.entries.now c.args.entries.now c.args.interfaces.now 0 c.args.supers.now
      (entries_of c.in_ok-bases.bases) c.requires c.in_ok-bases.ensures.1))
      (rw c.as_slice.ensures at c.in_ok-check_redefinitions.ensures.0),
  c.in_ok-bases.ensures.1,
)
