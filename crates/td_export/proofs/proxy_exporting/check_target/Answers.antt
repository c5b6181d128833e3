use Rattle.std.proofs.Common.{is_some, not, sym, ap, ◌∙◌}
use Rattle.td_exceptions.specs.declared.exception.UserException.TheVariants.{InvalidLookupRef}
use Rattle.td_ior.specs.Profiles.{iiop_of}
use Rattle.td_register.proofs.Otherwise.{not_raised, raises}
use Rattle.td_export.proofs.proxy_exporting.check_target.Goals as goal

pub returns-then-not-has_profile : goal.returns-then-not-has_profile
returns-then-not-has_profile c =
    let target = c.args.target.now in
    rw c.in_ok-invalid_lookup.ensures (raises (not (is_some (iiop_of target))) (InvalidLookupRef target) (ap not
    (sym c.has_profile.ensures ∙ c.if-not-has_profile.true)))

pub returns : goal.returns
returns c =
    let target = c.args.target.now in
    not_raised (not (is_some (iiop_of target))) (InvalidLookupRef target) (ap not (sym c.has_profile.ensures
    ∙ c.if-not-has_profile.false))
