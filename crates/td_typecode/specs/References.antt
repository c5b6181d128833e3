-- Object references (CORBA's chapter on ORB interoperability, "Interoperable Object References"): the
-- type id, and then the profiles, each a tag and octets.
use Rattle.std.specs.Prelude.{refl}
use Rattle.td_cdr.specs.Sound.{Sound, ◌&◌, structure, ulong, octets, text, sequence}
use Rattle.td_cdr.specs.declared.value_fault.ValueFault.{ValueFault}
use Rattle.td_typecode.specs.declared.reference.Profile.{Profile}
use Rattle.td_typecode.specs.declared.reference.Ior.{Ior}

abbrev pub profile : Sound ValueFault Profile
profile =
    structure (λ p. record { tag = p.0; octets = p.1 }) (λ x. (x.tag, x.octets)) (λ _. refl)
    (λ _. refl) (ulong & octets)

abbrev pub reference : Sound ValueFault Ior
reference =
    structure (λ p. record { id = p.0; profiles = p.1 }) (λ x. (x.id, x.profiles)) (λ _. refl)
    (λ _. refl) (text & sequence profile)
