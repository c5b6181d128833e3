-- Which changes can be written: their parameters, as they stand in a request (CORBA, chapter on the General Inter-ORB
-- Protocol, "CDR Transfer Syntax"). No text has a NUL, each any, TypeCode and reference has a spelling, and numbers fit
-- their fields.
use Rattle.std.specs.Prelude.{List, Option, None, Some}
use Rattle.std.specs.List.{AllByRecursion}
use Rattle.td_cdr.specs.Sound.{◌&◌, text}
use Rattle.td_typecode.specs.References.{reference}
use Rattle.td_typecode.specs.declared.reference.Ior.{Ior}
use Rattle.td_ops.specs.Calls.{AdmitsCall}
use Rattle.td_ops.specs.declared.call.Call.TheVariants as call
use Rattle.td_ops.specs.declared.call.Change.{Change}
use Rattle.td_ops.specs.declared.call.Change.TheVariants as change
use Rattle.td_register.specs.declared.history.Accepted.{Accepted}
use Rattle.td_value.specs.Enumerations.{follow_option}

-- the register of a link, as it is told
abbrev pub AdmitsRegister : Option Ior → Type 0
AdmitsRegister None = Unit {0}
AdmitsRegister (Some register) = reference.format.admits register

-- a change, as the parameters of a request for it; of a link that is added its register too, which no request has
abbrev pub AdmitsChange : Change → Type 0
AdmitsChange (change.AddLink name target def_pass_on limiting register) =
    (text & reference & follow_option & follow_option).format.admits
    (name, (target, (def_pass_on, limiting)))
    × AdmitsRegister register
AdmitsChange c = AdmitsCall (call.Change c)

-- the changes of a history
abbrev pub AreAdmitted : List Accepted → Type 0
AreAdmitted history = AllByRecursion (λ e. AdmitsChange e.change) history

-- the parameters of a change that is read from a request can be written
abbrev pub ReadChangesAreAdmitted : Type 0
ReadChangesAreAdmitted = (c : Change) → AdmitsCall (call.Change c) → AdmitsChange c
