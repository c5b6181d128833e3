use Rattle.std.proofs.Common.{◌≡◌, [], drop, take, map, reverse}
use Rattle.td_cdr.specs.Seen.{HaveSeen}
use Rattle.td_value.specs.declared.structures.Property.{Property}
use Rattle.td_register.specs.Properties.{properties_cause}
use Rattle.td_register.proofs.properties.check_properties.Given as goal

abbrev pub invariant-loop-property : goal.invariant-loop-property
invariant-loop-property l =
    record {
      seen : HaveSeen l.seen (reverse (map (λ (p : Property). p.name) (take l.property-index l.properties)));
      so_far : properties_cause l.supported l.type_name l.demanded
          (reverse (map (λ (p : Property). p.name) (take l.property-index l.properties)))
          (drop l.property-index l.properties)
          ≡ properties_cause l.supported l.type_name l.demanded [] l.properties;
    }
