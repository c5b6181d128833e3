-- What a type of a given name is, by the entry of that name.
use Rattle.std.proofs.Common.{◌≡◌, ℕ, false, List, [], ◌∷◌, reverse, map, Option, None, Some, refl, sym, ap, ◌∙◌}
use Rattle.std.specs.Option.{option_map, is_some}
use Rattle.td_types.specs.Judged.{AreKept}
use Rattle.td_types.specs.Kept.{entry_type, IsValidEntry}
use Rattle.td_types.specs.Properties.{full, full_properties}
use Rattle.td_types.specs.Repository.{ServiceType, has_type, is_named, type_named, incarnation_in, incarnation_of}
use Rattle.td_types.specs.Repository.{mask_in, mask_of}
use Rattle.td_types.specs.Sought.{entry_named}
use Rattle.td_types.specs.declared.entry.TypeEntry.{TypeEntry}
use Rattle.td_types.proofs.Found.{type_of_entry, of_found}
use Rattle.td_types.proofs.Named.{is_found}
use Rattle.td_types.proofs.Others.{any-reverse}
use Rattle.td_types.proofs.Removed.{found-name}
use Rattle.std.proofs.lemmas.Bool.{or_parts}

pub named_so : (es : List TypeEntry) (name : List ℕ) (found : Option TypeEntry) → found ≡ entry_named es name
    → type_named (map entry_type es) name ≡ option_map entry_type found
named_so es name found h = type_of_entry es name ∙ ap (option_map entry_type) (sym h)

pub incarnation_so : (es : List TypeEntry) (name : List ℕ) (found : Option TypeEntry) → found ≡ entry_named es name
    → incarnation_of (map entry_type es) name ≡ incarnation_in (option_map entry_type found)
incarnation_so es name found h = ap incarnation_in (named_so es name found h)

pub mask_so : (es : List TypeEntry) (name : List ℕ) (found : Option TypeEntry) → found ≡ entry_named es name
    → mask_of (map entry_type es) name ≡ mask_in (option_map entry_type found)
mask_so es name found h = ap mask_in (named_so es name found h)

-- ---- full properties

none_of : (ts : List ServiceType) (name : List ℕ) → has_type ts name ≡ false → full ts name ≡ []
none_of [] name h = refl
none_of (t ∷ ts) name h =
    let p = or_parts (is_named name t) (has_type ts name) h in
    rw p.0 (none_of ts name p.1)

pub no_properties : (es : List TypeEntry) (name : List ℕ) → None ≡ entry_named es name
    → [] ≡ full_properties (map entry_type es) name
unfolding full_properties
no_properties es name h =
    sym (none_of (reverse (map entry_type es)) name
    (any-reverse (is_named name) (map entry_type es) ∙ (is_found es name ∙ ap (λ (o : Option TypeEntry). is_some o) (sym h))))

pub its_properties : (es : List TypeEntry) (name : List ℕ) (e : TypeEntry) → AreKept es → Some e ≡ entry_named es name
    → e.full ≡ full_properties (map entry_type es) name
its_properties es name e k h =
    let own : IsValidEntry (map entry_type es) e = of_found (IsValidEntry (map entry_type es)) es name e k (sym h) in
    own.full ∙ ap (full_properties (map entry_type es)) (found-name es name e (sym h))
