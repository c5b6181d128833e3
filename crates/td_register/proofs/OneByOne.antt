-- Properties and names that are judged one by one.
use Rattle.std.proofs.Common.{◌≡◌, ℕ, ◌+◌, ◌<◌, Bool, List, [], ◌∷◌, None, length, get_or, take, drop, map, reverse}
use Rattle.std.proofs.Common.{sym, subst}
use Rattle.td_cdr.specs.Seen.{HaveSeen}
use Rattle.td_value.specs.declared.structures.PropStruct.{PropStruct}
use Rattle.td_value.specs.declared.structures.Property.{Property}
use Rattle.td_register.specs.Causes.{Cause, ◌otherwise◌}
use Rattle.td_register.specs.Judged.{IsMet}
use Rattle.td_register.specs.Properties.{name_cause, properties_cause, value_cause}
use Rattle.td_register.specs.declared.refusal.Fault.{Fault}
use Rattle.td_register.proofs.InOrder.{behind, passes, stops}
use Rattle.td_register.proofs.Otherwise.{first, grouped, neither, second}

abbrev name_of : Property → List ℕ
name_of p = p.name

-- the names of the properties so far, the last one in front
abbrev pub met : List Property → ℕ → List (List ℕ)
met ps i = reverse (map (λ (p : Property). p.name) (take i ps))

pub seen_more : (new : List (List ℕ)) (ps : List Property) (i : ℕ) (p : Property) → i < length ps →
    p ≡ get_or ps i p → HaveSeen new (p.name ∷ met ps i) → HaveSeen new (met ps (i + 1))
seen_more new ps i p lt is h = subst (HaveSeen new) (sym (behind name_of ps i p lt is)) h

-- ---- the properties of a new offer

abbrev property_cause : Bool → List ℕ → List PropStruct → List (List ℕ) → Property → Cause
property_cause supported type_name demanded before p =
    name_cause before p.name otherwise value_cause supported type_name demanded p

by_property : (supported : Bool) (type_name : List ℕ) (demanded : List PropStruct) (before : List (List ℕ))
    (p : Property) (ps : List Property) →
    properties_cause supported type_name demanded before (p ∷ ps)
    ≡ (property_cause supported type_name demanded before p otherwise
    properties_cause supported type_name demanded (p.name ∷ before) ps)
by_property supported type_name demanded before p ps =
    sym (grouped (name_cause before p.name) (value_cause supported type_name demanded p)
    (properties_cause supported type_name demanded (p.name ∷ before) ps))

property_stops : (supported : Bool) (type_name : List ℕ) (demanded : List PropStruct) (ps : List Property) (i : ℕ)
    (p : Property) (f : Fault) → i < length ps → p ≡ get_or ps i p →
    IsMet (property_cause supported type_name demanded (met ps i) p) f →
    properties_cause supported type_name demanded (met ps i) (drop i ps)
    ≡ properties_cause supported type_name demanded [] ps →
    IsMet (properties_cause supported type_name demanded [] ps) f
property_stops supported type_name demanded ps i p f lt is h so_far =
    stops name_of (property_cause supported type_name demanded) (properties_cause supported type_name demanded)
    (met ps i) ps i p f (properties_cause supported type_name demanded [] ps)
    (by_property supported type_name demanded) lt is h so_far

pub bad_name : (supported : Bool) (type_name : List ℕ) (demanded : List PropStruct) (ps : List Property) (i : ℕ)
    (p : Property) (f : Fault) → i < length ps → p ≡ get_or ps i p → IsMet (name_cause (met ps i) p.name) f →
    properties_cause supported type_name demanded (met ps i) (drop i ps)
    ≡ properties_cause supported type_name demanded [] ps →
    IsMet (properties_cause supported type_name demanded [] ps) f
bad_name supported type_name demanded ps i p f lt is h so_far =
    property_stops supported type_name demanded ps i p f lt is
    (first (name_cause (met ps i) p.name) (value_cause supported type_name demanded p) f h) so_far

pub bad_value : (supported : Bool) (type_name : List ℕ) (demanded : List PropStruct) (ps : List Property) (i : ℕ)
    (p : Property) (f : Fault) → i < length ps → p ≡ get_or ps i p → name_cause (met ps i) p.name ≡ None →
    IsMet (value_cause supported type_name demanded p) f →
    properties_cause supported type_name demanded (met ps i) (drop i ps)
    ≡ properties_cause supported type_name demanded [] ps →
    IsMet (properties_cause supported type_name demanded [] ps) f
bad_value supported type_name demanded ps i p f lt is e h so_far =
    property_stops supported type_name demanded ps i p f lt is
    (second (name_cause (met ps i) p.name) (value_cause supported type_name demanded p) f e h) so_far

pub good_property : (supported : Bool) (type_name : List ℕ) (demanded : List PropStruct) (ps : List Property) (i : ℕ)
    (p : Property) → i < length ps → p ≡ get_or ps i p → name_cause (met ps i) p.name ≡ None →
    value_cause supported type_name demanded p ≡ None →
    properties_cause supported type_name demanded (met ps i) (drop i ps)
    ≡ properties_cause supported type_name demanded [] ps →
    properties_cause supported type_name demanded (met ps (i + 1)) (drop (i + 1) ps)
    ≡ properties_cause supported type_name demanded [] ps
good_property supported type_name demanded ps i p lt is e h so_far =
    let total = properties_cause supported type_name demanded [] ps in
    subst (λ (b : List (List ℕ)). properties_cause supported type_name demanded b (drop (i + 1) ps) ≡ total)
    (sym (behind name_of ps i p lt is))
    (passes name_of (property_cause supported type_name demanded) (properties_cause supported type_name demanded)
    (met ps i) ps i p total (by_property supported type_name demanded) lt is
    (neither (name_cause (met ps i) p.name) (value_cause supported type_name demanded p) e h) so_far)
