-- An offer that is modified.
use Rattle.std.proofs.Common.{◌≡◌, ℕ, ◌+◌, ◌<◌, Bool, List, [], ◌∷◌, ◌++◌, None, length, get_or}
use Rattle.std.proofs.Common.{take, drop, reverse, refl, sym, ap, subst, ◌∙◌, add-one}
use Rattle.std.proofs.Math.Seq.{take-suc}
use Rattle.std.proofs.lemmas.List.{reverse-append}
use Rattle.std.proofs.lemmas.List.Sorted.{IsPermutation-reverse, list_any-IsPermutation}
use Rattle.std.specs.Str.{bytes_eq}
use Rattle.td_cdr.specs.Seen.{HaveSeen}
use Rattle.td_store.specs.declared.record.OfferRecord.{OfferRecord}
use Rattle.td_value.specs.declared.structures.PropStruct.{PropStruct}
use Rattle.td_value.specs.declared.structures.Property.{Property}
use Rattle.td_register.specs.Causes.{Cause, ◌otherwise◌}
use Rattle.td_register.specs.Judged.{IsMet}
use Rattle.td_register.specs.Properties.{name_cause, value_cause}
use Rattle.td_register.specs.Registers.{changes_cause, deletion_cause, deletions_cause, readonly_cause}
use Rattle.td_register.specs.declared.refusal.Fault.{Fault}
use Rattle.td_register.proofs.InOrder.{behind, passes, stops}
use Rattle.td_register.proofs.OneByOne.{met}
use Rattle.td_register.proofs.Otherwise.{grouped, neither}

-- ---- the names that are to be deleted

-- the names so far, the last one in front
abbrev pub met_names : List (List ℕ) → ℕ → List (List ℕ)
met_names names i = reverse (take i names)

one_name_more : (names : List (List ℕ)) (i : ℕ) (n : List ℕ) → i < length names → n ≡ get_or names i n →
    met_names names (i + 1) ≡ n ∷ met_names names i
one_name_more names i n lt is = rw (add-one, take-suc names i n lt, ← is, reverse-append) refl

pub seen_name : (new : List (List ℕ)) (names : List (List ℕ)) (i : ℕ) (n : List ℕ) → i < length names →
    n ≡ get_or names i n → HaveSeen new (n ∷ met_names names i) → HaveSeen new (met_names names (i + 1))
seen_name new names i n lt is h = subst (HaveSeen new) (sym (one_name_more names i n lt is)) h

pub seen_turned : (seen : List (List ℕ)) (names : List (List ℕ)) → HaveSeen seen (reverse names) →
    HaveSeen seen names
seen_turned seen names h name =
    h name ∙ sym (list_any-IsPermutation (bytes_eq name) names (reverse names) (IsPermutation-reverse names))

abbrev deleted_cause : List PropStruct → OfferRecord → List (List ℕ) → List ℕ → Cause
deleted_cause demanded o before n = name_cause before n otherwise deletion_cause demanded o n

by_name : (demanded : List PropStruct) (o : OfferRecord) (before : List (List ℕ)) (n : List ℕ) (ns : List (List ℕ)) →
    deletions_cause demanded o before (n ∷ ns)
    ≡ (deleted_cause demanded o before n otherwise deletions_cause demanded o (n ∷ before) ns)
by_name demanded o before n ns =
    sym (grouped (name_cause before n) (deletion_cause demanded o n) (deletions_cause demanded o (n ∷ before) ns))

pub deletion_stops : (demanded : List PropStruct) (o : OfferRecord) (ns : List (List ℕ)) (i : ℕ) (n : List ℕ)
    (f : Fault) → i < length ns → n ≡ get_or ns i n → IsMet (deleted_cause demanded o (met_names ns i) n) f →
    deletions_cause demanded o (met_names ns i) (drop i ns) ≡ deletions_cause demanded o [] ns →
    IsMet (deletions_cause demanded o [] ns) f
deletion_stops demanded o ns i n f lt is h so_far =
    stops (λ (m : List ℕ). m) (deleted_cause demanded o) (deletions_cause demanded o) (met_names ns i) ns i n f
    (deletions_cause demanded o [] ns) (by_name demanded o) lt is h so_far

pub deletion_passes : (demanded : List PropStruct) (o : OfferRecord) (ns : List (List ℕ)) (i : ℕ) (n : List ℕ) →
    i < length ns → n ≡ get_or ns i n → name_cause (met_names ns i) n ≡ None → deletion_cause demanded o n ≡ None →
    deletions_cause demanded o (met_names ns i) (drop i ns) ≡ deletions_cause demanded o [] ns →
    deletions_cause demanded o (met_names ns (i + 1)) (drop (i + 1) ns) ≡ deletions_cause demanded o [] ns
deletion_passes demanded o ns i n lt is e h so_far =
    let total = deletions_cause demanded o [] ns in
    subst (λ (b : List (List ℕ)). deletions_cause demanded o b (drop (i + 1) ns) ≡ total)
    (sym (one_name_more ns i n lt is))
    (passes (λ (m : List ℕ). m) (deleted_cause demanded o) (deletions_cause demanded o) (met_names ns i) ns i n total
    (by_name demanded o) lt is
    (neither (name_cause (met_names ns i) n) (deletion_cause demanded o n) e h) so_far)

-- ---- the properties that are to be set

-- those to be deleted, and those set so far in front of them
abbrev pub met_with : List (List ℕ) → List Property → ℕ → List (List ℕ)
met_with deleted ps i = met ps i ++ deleted

abbrev pub change_cause : Bool → List PropStruct → OfferRecord → List (List ℕ) → Property → Cause
change_cause supported demanded o before p =
    name_cause before p.name otherwise value_cause supported o.service_type demanded p otherwise readonly_cause
    demanded o p.name

abbrev name_of : Property → List ℕ
name_of p = p.name

by_change : (supported : Bool) (demanded : List PropStruct) (o : OfferRecord) (before : List (List ℕ)) (p : Property)
    (ps : List Property) → changes_cause supported demanded o before (p ∷ ps)
    ≡ (change_cause supported demanded o before p otherwise changes_cause supported demanded o (p.name ∷ before) ps)
by_change supported demanded o before p ps =
    let a = name_cause before p.name in
    let b = value_cause supported o.service_type demanded p in
    let c = readonly_cause demanded o p.name in
    let d = changes_cause supported demanded o (p.name ∷ before) ps in
    sym (grouped a (b otherwise c) d ∙ ap (λ (x : Cause). a otherwise x) (grouped b c d))

pub seen_change : (new : List (List ℕ)) (deleted : List (List ℕ)) (ps : List Property) (i : ℕ)
    (p : Property) → i < length ps → p ≡ get_or ps i p → HaveSeen new (p.name ∷ met_with deleted ps i) →
    HaveSeen new (met_with deleted ps (i + 1))
seen_change new deleted ps i p lt is h =
    subst (λ (b : List (List ℕ)). HaveSeen new (b ++ deleted)) (sym (behind name_of ps i p lt is)) h

pub change_stops : (supported : Bool) (demanded : List PropStruct) (o : OfferRecord) (deleted : List (List ℕ))
    (ps : List Property) (i : ℕ) (p : Property) (f : Fault) → i < length ps → p ≡ get_or ps i p →
    IsMet (change_cause supported demanded o (met_with deleted ps i) p) f →
    changes_cause supported demanded o (met_with deleted ps i) (drop i ps)
    ≡ changes_cause supported demanded o deleted ps →
    IsMet (changes_cause supported demanded o deleted ps) f
change_stops supported demanded o deleted ps i p f lt is h so_far =
    stops name_of (change_cause supported demanded o) (changes_cause supported demanded o) (met_with deleted ps i) ps i
    p f (changes_cause supported demanded o deleted ps) (by_change supported demanded o) lt is h so_far

pub change_passes : (supported : Bool) (demanded : List PropStruct) (o : OfferRecord) (deleted : List (List ℕ))
    (ps : List Property) (i : ℕ) (p : Property) → i < length ps → p ≡ get_or ps i p →
    name_cause (met_with deleted ps i) p.name ≡ None → value_cause supported o.service_type demanded p ≡ None →
    readonly_cause demanded o p.name ≡ None →
    changes_cause supported demanded o (met_with deleted ps i) (drop i ps)
    ≡ changes_cause supported demanded o deleted ps →
    changes_cause supported demanded o (met_with deleted ps (i + 1)) (drop (i + 1) ps)
    ≡ changes_cause supported demanded o deleted ps
change_passes supported demanded o deleted ps i p lt is e h k so_far =
    let total = changes_cause supported demanded o deleted ps in
    let name = name_cause (met_with deleted ps i) p.name in
    let value = value_cause supported o.service_type demanded p in
    let fixed = readonly_cause demanded o p.name in
    subst (λ (b : List (List ℕ)). changes_cause supported demanded o (b ++ deleted) (drop (i + 1) ps) ≡ total)
    (sym (behind name_of ps i p lt is))
    (passes name_of (change_cause supported demanded o) (changes_cause supported demanded o) (met_with deleted ps i) ps
    i p total (by_change supported demanded o) lt is
    (neither name (value otherwise fixed) e (neither value fixed h k)) so_far)
