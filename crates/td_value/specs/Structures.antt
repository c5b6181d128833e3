-- The structures of the trading service (OMG's Trading Object Service, modules CosTrading,
-- CosTradingDynamic and CosTradingRepos): a structure is spelled by its members in order.
use Rattle.std.specs.Prelude.{refl}
use Rattle.td_cdr.specs.Sound.{Sound, ◌&◌, structure, ulong, boolean, text, sequence}
use Rattle.td_cdr.specs.declared.value_fault.ValueFault.{ValueFault}
use Rattle.td_typecode.specs.Outermost.{type_code}
use Rattle.td_typecode.specs.References.{reference}
use Rattle.td_typecode.specs.Values.{any_value}
use Rattle.td_value.specs.Enumerations.{follow_option, property_mode}
use Rattle.td_value.specs.declared.structures.Property.{Property}
use Rattle.td_value.specs.declared.structures.Policy.{Policy}
use Rattle.td_value.specs.declared.structures.IncarnationNumber.{IncarnationNumber}
use Rattle.td_value.specs.declared.structures.PropStruct.{PropStruct}
use Rattle.td_value.specs.declared.structures.Offer.{Offer}
use Rattle.td_value.specs.declared.structures.OfferInfo.{OfferInfo}
use Rattle.td_value.specs.declared.structures.LinkInfo.{LinkInfo}
use Rattle.td_value.specs.declared.structures.ProxyInfo.{ProxyInfo}
use Rattle.td_value.specs.declared.structures.TypeStruct.{TypeStruct}
use Rattle.td_value.specs.declared.structures.DynamicProp.{DynamicProp}

abbrev pub property : Sound ValueFault Property
property = structure
    (λ p. record { name = p.0; value = p.1 })
    (λ x. (x.name, x.value)) (λ _. refl) (λ _. refl)
    (text & any_value)

abbrev pub policy : Sound ValueFault Policy
policy = structure
    (λ p. record { name = p.0; value = p.1 })
    (λ x. (x.name, x.value)) (λ _. refl) (λ _. refl)
    (text & any_value)

abbrev pub incarnation_number : Sound ValueFault IncarnationNumber
incarnation_number = structure
    (λ p. record { high = p.0; low = p.1 })
    (λ x. (x.high, x.low)) (λ _. refl) (λ _. refl)
    (ulong & ulong)

abbrev pub prop_struct : Sound ValueFault PropStruct
prop_struct = structure
    (λ p. record { name = p.0; value_type = p.1.0; mode = p.1.1 })
    (λ x. (x.name, (x.value_type, x.mode))) (λ _. refl) (λ _. refl)
    (text & type_code & property_mode)

abbrev pub offer : Sound ValueFault Offer
offer = structure
    (λ p. record { reference = p.0; properties = p.1 })
    (λ x. (x.reference, x.properties)) (λ _. refl) (λ _. refl)
    (reference & sequence property)

abbrev pub offer_info : Sound ValueFault OfferInfo
offer_info = structure
    (λ p. record { reference = p.0; service_type = p.1.0; properties = p.1.1 })
    (λ x. (x.reference, (x.service_type, x.properties))) (λ _. refl) (λ _. refl)
    (reference & text & sequence property)

abbrev pub link_info : Sound ValueFault LinkInfo
link_info = structure
    (λ p. record {
      target = p.0;
      target_reg = p.1.0;
      def_pass_on_follow_rule = p.1.1.0;
      limiting_follow_rule = p.1.1.1;
    })
    (λ x. (x.target, (x.target_reg, (x.def_pass_on_follow_rule, x.limiting_follow_rule))))
    (λ _. refl) (λ _. refl) (reference & reference & follow_option & follow_option)

abbrev pub proxy_info : Sound ValueFault ProxyInfo
proxy_info = structure
    (λ p. record {
      service_type = p.0;
      target = p.1.0;
      properties = p.1.1.0;
      if_match_all = p.1.1.1.0;
      recipe = p.1.1.1.1.0;
      policies_to_pass_on = p.1.1.1.1.1;
    })
    (λ x. (
      x.service_type,
      (
        x.target,
        (x.properties, (x.if_match_all, (x.recipe, x.policies_to_pass_on))),
      ),
    )) (λ _. refl) (λ _. refl)
    (text & reference & sequence property & boolean & text & sequence policy)

abbrev pub type_struct : Sound ValueFault TypeStruct
type_struct = structure
    (λ p. record {
      if_name = p.0;
      props = p.1.0;
      super_types = p.1.1.0;
      masked = p.1.1.1.0;
      incarnation = p.1.1.1.1;
    })
    (λ x. (x.if_name, (x.props, (x.super_types, (x.masked, x.incarnation))))) (λ _. refl)
    (λ _. refl) (text & sequence prop_struct & sequence text & boolean & incarnation_number)

abbrev pub dynamic_prop : Sound ValueFault DynamicProp
dynamic_prop = structure
    (λ p. record { eval_if = p.0; returned_type = p.1.0; extra_info = p.1.1 })
    (λ x. (x.eval_if, (x.returned_type, x.extra_info))) (λ _. refl) (λ _. refl)
    (reference & type_code & any_value)
