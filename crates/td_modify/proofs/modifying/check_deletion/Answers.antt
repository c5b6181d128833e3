use Rattle.std.proofs.Common.{◌≡◌, true, false, not, sym, ap, ◌∙◌}
use Rattle.td_exceptions.specs.declared.exception.UserException.TheVariants.{MandatoryProperty, ReadonlyProperty}
use Rattle.td_exceptions.specs.declared.exception.UserException.TheVariants.{UnknownPropertyName}
use Rattle.td_types.specs.Modes.{is_mandatory, is_readonly}
use Rattle.td_register.specs.Causes.{raise_if, ◌otherwise◌}
use Rattle.td_register.specs.Properties.{carries, mode_of}
use Rattle.td_register.proofs.Otherwise.{neither, not_raised}
use Rattle.td_modify.proofs.modifying.check_deletion.Goals as goal

pub returns : goal.returns
returns c =
    let name = c.args.name.now in
    let o = c.args.offer.now in
    let mode = mode_of c.args.type_properties.now name in
    let has : carries o.properties name ≡ true =
    sym (rw (c.as_slice.ensures, c.as_slice-2.ensures, c.deref.ensures) at c.carries.ensures)
    ∙ c.if-not-carries.false in
    let free : is_mandatory mode ≡ false =
    sym (rw (c.mode_of-mode.ensures, c.as_slice-3.ensures) at c.is_mandatory.ensures) ∙ c.if-is_mandatory.false in
    let changes : is_readonly mode ≡ false =
    sym (rw (c.mode_of-mode.ensures, c.as_slice-3.ensures) at c.is_readonly.ensures) ∙ c.if-is_readonly.false in
    let unknown = raise_if (not (carries o.properties name)) (UnknownPropertyName name) in
    let needed = raise_if (is_mandatory mode) (MandatoryProperty o.service_type name) in
    let fixed = raise_if (is_readonly mode) (ReadonlyProperty o.service_type name) in
    neither unknown (needed otherwise fixed) (not_raised (not (carries o.properties name)) (UnknownPropertyName name)
    (ap not has)) (neither needed fixed (not_raised (is_mandatory mode) (MandatoryProperty o.service_type name) free)
    (not_raised (is_readonly mode) (ReadonlyProperty o.service_type name) changes))
