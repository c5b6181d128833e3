use Rattle.std.proofs.Common.{◌≡◌, ◌<◌, false, [], ◌∷◌, ◌++◌, length, ◌∙◌, ap, sym, arith}
use Rattle.td_value.specs.declared.structures.PropStruct.{PropStruct}
use Rattle.td_types.specs.Adding.{most_properties}
use Rattle.td_types.specs.Judged.{inherited_properties}
use Rattle.td_types.specs.Properties.{has_property, with_stronger_mode}
use Rattle.td_types.proofs.Gathered.{pushed, one_longer}
use Rattle.td_types.proofs.Redefined.{entries_of}
use Rattle.td_types.proofs.inheriting.extend_by_one.Goals as goal

pub returns : goal.returns
returns c = λ later.
    let e : c.push.new.self ≡ c.args.full.now
    ++ with_stronger_mode (inherited_properties (entries_of c.args.bases.now)) c.args.property.now ∷ [] =
    c.in_ok-push.ensures.ok ∙ ap (λ (p : PropStruct). c.args.full.now ++ p ∷ []) c.in_ok-with_stronger_mode.ensures in
    let anew : has_property c.args.full.now c.args.property.now.name ≡ false =
    sym (rw (c.as_slice.ensures, c.as_slice-2.ensures) at c.if-has_property.ensures) in
    let room : length c.args.full.now < most_properties =
    omega (arith, c.len.ensures, c.if-len-ge-MOST_PROPERTIES.false) in (
      pushed (inherited_properties (entries_of c.args.bases.now)) c.args.full.now c.push.new.self later c.args.property.now anew e,
      one_longer c.args.full.now c.push.new.self _ e room,
    )
