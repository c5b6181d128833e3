use Rattle.std.proofs.Common.{[]}
use Rattle.td_types.specs.Properties.{full_properties}
use Rattle.td_register.specs.Properties.{missing_property, missing_cause, properties_cause}
use Rattle.td_register.proofs.Otherwise.{later}
use Rattle.td_export.proofs.exporting.check_offer.Goals as goal

pub returns : goal.returns
returns c =
    let s = c.args.store.now in
    let name = c.args.type_name.now in
    let demanded = full_properties s.types.types name in
    later (properties_cause s.attributes.supports_dynamic_properties name demanded [] c.args.properties.now)
    (missing_cause name (missing_property demanded c.args.properties.now)) c.check_missing.result
    (rw (
      c.full_properties-demanded.ensures,
      c.as_slice.ensures,
      c.as_slice-properties.ensures,
    ) at c.in_ok-check_properties.ensures)
    (rw (
      c.full_properties-demanded.ensures,
      c.as_slice.ensures,
      c.as_slice-properties.ensures,
    ) at c.check_missing.ensures)
