-- How names and bindings are spelled (CORBA's chapter on the General Inter-ORB Protocol, "CDR Transfer Syntax"; OMG's
-- Naming Service, module CosNaming).
use Rattle.std.specs.Prelude.{◌≡◌, ℕ, Bool, true, false, List, [], ◌∷◌, Option, Some, None, refl}
use Rattle.td_cdr.specs.Place.{At}
use Rattle.td_cdr.specs.Reading.{next_aligned}
use Rattle.td_cdr.specs.Format.{partial_format}
use Rattle.td_cdr.specs.FormatFaults.{PartialFault}
use Rattle.td_cdr.specs.LawfulFormats.{partial_format-lawful}
use Rattle.td_cdr.specs.RefusedFormats.{partial_format-refuses}
use Rattle.td_cdr.specs.Sound.{Sound, ◌&◌, structure, enumeration, sequence, text}
use Rattle.td_cdr.specs.declared.value_fault.ValueFault.{ValueFault}
use Rattle.td_cdr.specs.declared.value_fault.ValueFault.TheVariants.{BadValue}
use Rattle.td_names.specs.declared.component.NameBinding.{NameBinding}
use Rattle.td_names.specs.declared.component.NameComponent.{NameComponent}

-- NameComponent: the id and the kind
abbrev pub component : Sound ValueFault NameComponent
component =
    structure (λ p. record { id = p.0; kind = p.1 }) (λ c. (c.id, c.kind)) (λ _. refl) (λ _. refl)
    (text & text)

-- Name
abbrev pub name : Sound ValueFault (List NameComponent)
name = sequence component

-- BindingType: nobject, and ncontext for what is bound as a context
abbrev pub binding_type_number : Bool → ℕ
binding_type_number false = 0
binding_type_number true = 1

abbrev pub binding_type : Sound ValueFault Bool
binding_type = enumeration (false ∷ true ∷ []) binding_type_number
    (elim [ false ↦ refl | true ↦ refl ]) refl

-- ---- Binding: a name and a type. The name is of one component.

abbrev pub NameParts : Type 0
NameParts = List NameComponent × Bool

abbrev pub binding_with : List NameComponent → Bool → Option NameBinding
binding_with [] context = None
binding_with (c ∷ []) context = Some (record { name = c; context = context })
binding_with (c ∷ d ∷ ds) context = None

abbrev pub binding_of : NameParts → Option NameBinding
binding_of p = binding_with p.0 p.1

abbrev pub parts_of : NameBinding → NameParts
parts_of b = (b.name ∷ [], b.context)

abbrev pub not_one : NameParts → At → ValueFault
not_one p a = BadValue (next_aligned 4 a)

abbrev pub binding_parts : Sound ValueFault NameParts
binding_parts = name & binding_type

pub parts_back : (components : List NameComponent) (context : Bool) (b : NameBinding)
    → binding_with components context ≡ Some b → parts_of b ≡ (components, context)
parts_back [] context b h = absurd cc
parts_back (c ∷ []) context b h = cc
parts_back (c ∷ d ∷ ds) context b h = absurd cc

abbrev pub binding : Sound ValueFault NameBinding
binding = record {
  format = partial_format binding_of parts_of not_one binding_parts.format;
  lawful =
      partial_format-lawful binding_of parts_of not_one binding_parts.format (λ _. refl)
      (λ p b h. parts_back p.0 p.1 b h) binding_parts.lawful;
  faults = PartialFault binding_parts.format.spells binding_of not_one binding_parts.faults;
  refuses =
      partial_format-refuses binding_of parts_of not_one binding_parts.format binding_parts.faults
      binding_parts.lawful binding_parts.refuses;
}
