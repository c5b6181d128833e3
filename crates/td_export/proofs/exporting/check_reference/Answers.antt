use Rattle.std.proofs.Common.{sym, ◌∙◌}
use Rattle.td_exceptions.specs.declared.exception.UserException.TheVariants.{InvalidObjectRef}
use Rattle.td_ior.specs.Nil.{is_nil}
use Rattle.td_register.proofs.Otherwise.{not_raised, raises}
use Rattle.td_export.proofs.exporting.check_reference.Goals as goal

pub returns-then-is_nil : goal.returns-then-is_nil
returns-then-is_nil c =
    let reference = c.args.reference.now in
    rw (c.raised.ensures, c.in_ok-copy.ensures) (raises (is_nil reference) (InvalidObjectRef reference)
    (sym c.is_nil.ensures ∙ c.if-is_nil.true))

pub returns : goal.returns
returns c =
    let reference = c.args.reference.now in
    not_raised (is_nil reference) (InvalidObjectRef reference) (sym c.is_nil.ensures ∙ c.if-is_nil.false)
