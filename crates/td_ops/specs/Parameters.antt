-- The parameters of query and of add_link, in the order of their declaration (OMG's Trading Object Service,
-- interfaces Lookup and Link).
use Rattle.std.specs.Prelude.{refl}
use Rattle.td_cdr.specs.Sound.{Sound, ◌&◌, structure, text, ulong, sequence}
use Rattle.td_cdr.specs.declared.value_fault.ValueFault.{ValueFault}
use Rattle.td_typecode.specs.References.{reference}
use Rattle.td_value.specs.Enumerations.{follow_option}
use Rattle.td_value.specs.Structures.{policy}
use Rattle.td_value.specs.Unions.{specified_props}
use Rattle.td_ops.specs.declared.call.Query.{Query}
use Rattle.td_ops.specs.declared.call.AddLink.{AddLink}

abbrev pub query : Sound ValueFault Query
query =
    structure (λ p. record {
      service_type = p.0;
      constraint = p.1.0;
      preference = p.1.1.0;
      policies = p.1.1.1.0;
      desired = p.1.1.1.1.0;
      how_many = p.1.1.1.1.1;
    })
    (λ x. (x.service_type, (x.constraint, (x.preference, (x.policies, (x.desired, x.how_many))))))
    (λ _. refl) (λ _. refl) (text & text & text & sequence policy & specified_props & ulong)

abbrev pub add_link : Sound ValueFault AddLink
add_link =
    structure (λ p. record {
      name = p.0;
      target = p.1.0;
      def_pass_on = p.1.1.0;
      limiting = p.1.1.1;
    }) (λ x. (x.name, (x.target, (x.def_pass_on, x.limiting)))) (λ _. refl)
    (λ _. refl) (text & reference & follow_option & follow_option)
