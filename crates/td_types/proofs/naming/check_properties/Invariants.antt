use Rattle.std.proofs.Common.{◌≡◌, [], drop, take, map, reverse}
use Rattle.td_types.specs.Adding.{property_fault}
use Rattle.td_cdr.specs.Seen.{HaveSeen}
use Rattle.td_value.specs.declared.structures.PropStruct.{PropStruct}
use Rattle.td_types.proofs.naming.check_properties.Given as goal

abbrev pub invariant-loop-prop : goal.invariant-loop-prop
invariant-loop-prop l =
    record {
      seen : HaveSeen l.seen (reverse (map (λ (p : PropStruct). p.name) (take l.prop-index l.props)));
      so_far : property_fault (reverse (map (λ (p : PropStruct). p.name) (take l.prop-index l.props)))
          (drop l.prop-index l.props)
          ≡ property_fault [] l.props;
    }
