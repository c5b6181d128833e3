-- The policies of a sub-query by their names, and what those that were replaced state.
use Rattle.std.proofs.Common.{◌≡◌, ℕ, ◌-◌, ◌<◌, nat_le, Bool, false, List, [], ◌∷◌, length, map}
use Rattle.std.proofs.Common.{Option, Some, None, Result, Ok, Err, refl, sym, ap, ◌∙◌, subst, arith, codes}
use Rattle.std.proofs.Common.{if◌then◌else◌, option_map, inl, inr}
use Rattle.std.specs.Str.{bytes_eq}
use Rattle.std.proofs.lemmas.Bool.{lt-leb, cases_lt}
use Rattle.std.proofs.lemmas.List.{length-map}
use Rattle.td_sameness.proofs.Symmetry.{same-refl}
use Rattle.td_typecode.specs.Layers.{value-items}
use Rattle.td_typecode.specs.declared.code.Value.{Value}
use Rattle.td_typecode.specs.declared.code.Value.TheVariants as value
use Rattle.td_policy.proofs.Alone.{octets_alone, texts_alone}
use Rattle.td_policy.proofs.ReadBack.{octets_back, texts_back}
use Rattle.td_policy.specs.Stated.{stated, stated_value, valid}
use Rattle.td_policy.specs.Values.{PolicyKind, octets, texts, octet_of, text_of, items_in, items_of}
use Rattle.td_policy.specs.declared.fault.PolicyFault.TheVariants as fault
use Rattle.td_policy.specs.declared.stated.Stated.{Stated}
use Rattle.td_value.specs.declared.enumerations.FollowOption.{FollowOption}
use Rattle.td_value.specs.declared.structures.Policy.{Policy}
use Rattle.td_walk.specs.Passing.{policy_named, with_policy, with_optional, without_policy, hop_policy, follow_policy}
use Rattle.td_walk.specs.Passing.{identifier_policy, start_policy, card_policy, with_search_policies, along_path}
use Rattle.td_policy.specs.Fields as field
use Rattle.td_policy.specs.Fields.{Field, FieldValue}
use Rattle.td_query_walk.proofs.Fields.{is-stated}
use Rattle.td_query_walk.proofs.Named.{put-is-named, others-stay, taken-is-gone, others-are-left}
use Rattle.td_query_walk.proofs.Stating.{IsStatedBy, ok-is}

-- ---- by their names

follow-stays : (name : List ℕ) (o : Option FollowOption) (ps : List Policy)
    → bytes_eq (codes "link_follow_rule") name ≡ false
    → policy_named (with_optional (option_map follow_policy o) ps) name ≡ policy_named ps name
follow-stays name None ps apart = refl
follow-stays name (Some r) ps apart = others-stay name (follow_policy r) ps apart

identifier-stays : (name : List ℕ) (o : Option (List ℕ)) (ps : List Policy) → bytes_eq (codes "request_id") name ≡ false
    → policy_named (with_optional (option_map identifier_policy o) ps) name ≡ policy_named ps name
identifier-stays name None ps apart = refl
identifier-stays name (Some id) ps apart = others-stay name (identifier_policy id) ps apart

card-stays : (name : List ℕ) (o : Option ℕ) (ps : List Policy) → bytes_eq (codes "return_card") name ≡ false
    → policy_named (with_optional (option_map card_policy o) ps) name ≡ policy_named ps name
card-stays name None ps apart = refl
card-stays name (Some n) ps apart = others-stay name (card_policy n) ps apart

abbrev left : List Policy → List Policy
left ps = without_policy (codes "starting_trader") ps

abbrev hopped : (hops : ℕ) → List Policy → List Policy
hopped hops ps = with_policy (hop_policy (hops - 1)) (left ps)

abbrev ruled : (hops : ℕ) → Option FollowOption → List Policy → List Policy
ruled hops follow ps = with_optional (option_map follow_policy follow) (hopped hops ps)

abbrev identified : (hops : ℕ) → Option FollowOption → Option (List ℕ) → List Policy → List Policy
identified hops follow identifier ps = with_optional (option_map identifier_policy identifier) (ruled hops follow ps)

module _ (hops : ℕ) (follow : Option FollowOption) (identifier : Option (List ℕ)) (wanted : Option ℕ)
    (ps : List Policy) where
  pub hops-there : policy_named (with_search_policies hops follow identifier wanted ps) (codes "hop_count")
      ≡ Some (hop_policy (hops - 1))
  hops-there =
      card-stays (codes "hop_count") wanted (identified hops follow identifier ps) refl
      ∙ identifier-stays (codes "hop_count") identifier (ruled hops follow ps) refl
      ∙ follow-stays (codes "hop_count") follow (hopped hops ps) refl
      ∙ put-is-named (hop_policy (hops - 1)) (left ps)

  pub start-gone : policy_named (with_search_policies hops follow identifier wanted ps) (codes "starting_trader") ≡ None
  start-gone =
      card-stays (codes "starting_trader") wanted (identified hops follow identifier ps) refl
      ∙ identifier-stays (codes "starting_trader") identifier (ruled hops follow ps) refl
      ∙ follow-stays (codes "starting_trader") follow (hopped hops ps) refl
      ∙ others-stay (codes "starting_trader") (hop_policy (hops - 1)) (left ps) refl
      ∙ taken-is-gone (codes "starting_trader") ps

  -- a policy of any other name stays
  pub replaced-stays : (name : List ℕ) → bytes_eq (codes "return_card") name ≡ false
      → bytes_eq (codes "request_id") name ≡ false
      → bytes_eq (codes "link_follow_rule") name ≡ false → bytes_eq (codes "hop_count") name ≡ false
      → bytes_eq name (codes "starting_trader") ≡ false
      → policy_named (with_search_policies hops follow identifier wanted ps) name ≡ policy_named ps name
  replaced-stays name no_card no_identifier no_rule no_hops no_start =
      card-stays name wanted (identified hops follow identifier ps) no_card
      ∙ identifier-stays name identifier (ruled hops follow ps) no_identifier
      ∙ follow-stays name follow (hopped hops ps) no_rule
      ∙ others-stay name (hop_policy (hops - 1)) (left ps) no_hops
      ∙ others-are-left (codes "starting_trader") name ps no_start

pub identifier-there : (hops : ℕ) (follow : Option FollowOption) (id : List ℕ) (wanted : Option ℕ) (ps : List Policy)
    → policy_named (with_search_policies hops follow (Some id) wanted ps) (codes "request_id") ≡ Some (identifier_policy id)
identifier-there hops follow id wanted ps =
    card-stays (codes "request_id") wanted (identified hops follow (Some id) ps) refl
    ∙ put-is-named (identifier_policy id) (ruled hops follow ps)

pub follow-there : (hops : ℕ) (r : FollowOption) (identifier : Option (List ℕ)) (wanted : Option ℕ) (ps : List Policy)
    → policy_named (with_search_policies hops (Some r) identifier wanted ps) (codes "link_follow_rule") ≡ Some (follow_policy r)
follow-there hops r identifier wanted ps =
    card-stays (codes "link_follow_rule") wanted (identified hops (Some r) identifier ps) refl
    ∙ identifier-stays (codes "link_follow_rule") identifier (ruled hops (Some r) ps) refl
    ∙ put-is-named (follow_policy r) (hopped hops ps)

-- where the offers that are wanted are limited, that is stated
pub card-there : (hops : ℕ) (follow : Option FollowOption) (identifier : Option (List ℕ)) (n : ℕ) (ps : List Policy)
    → policy_named (with_search_policies hops follow identifier (Some n) ps) (codes "return_card") ≡ Some (card_policy n)
card-there hops follow identifier n ps = put-is-named (card_policy n) (identified hops follow identifier ps)

-- and else what was stated stays
pub card-untouched : (hops : ℕ) (follow : Option FollowOption) (identifier : Option (List ℕ)) (ps : List Policy)
    → policy_named (with_search_policies hops follow identifier None ps) (codes "return_card")
    ≡ policy_named ps (codes "return_card")
card-untouched hops follow identifier ps =
    identifier-stays (codes "return_card") identifier (ruled hops follow ps) refl
    ∙ follow-stays (codes "return_card") follow (hopped hops ps) refl
    ∙ others-stay (codes "return_card") (hop_policy (hops - 1)) (left ps) refl
    ∙ others-are-left (codes "starting_trader") (codes "return_card") ps refl

-- a rule that was stated stays where none is passed on
pub rule-untouched : (hops : ℕ) (identifier : Option (List ℕ)) (wanted : Option ℕ) (ps : List Policy)
    → policy_named (with_search_policies hops None identifier wanted ps) (codes "link_follow_rule")
    ≡ policy_named ps (codes "link_follow_rule")
rule-untouched hops identifier wanted ps =
    card-stays (codes "link_follow_rule") wanted (identified hops None identifier ps) refl
    ∙ identifier-stays (codes "link_follow_rule") identifier (ruled hops None ps) refl
    ∙ others-stay (codes "link_follow_rule") (hop_policy (hops - 1)) (left ps) refl
    ∙ others-are-left (codes "starting_trader") (codes "link_follow_rule") ps refl

pub path-stays : (name : List ℕ) (names : List (List ℕ)) (ps : List Policy)
    → bytes_eq (codes "starting_trader") name ≡ false → bytes_eq name (codes "starting_trader") ≡ false
    → policy_named (along_path names ps) name ≡ policy_named ps name
path-stays name [] ps apart turned = others-are-left (codes "starting_trader") name ps turned
path-stays name (n ∷ names) ps apart turned = others-stay name (start_policy (n ∷ names)) ps apart

-- ---- what they state

pub there : {A : Type 0} (kind : PolicyKind A) (o : Option Policy) (p : Policy) (before now : Option A) → o ≡ Some p
    → IsStatedBy kind o before now → stated_value kind p ≡ Ok now
there kind o p before now is h = subst (λ (q : Option Policy). IsStatedBy kind q before now) is h

pub gone : {A : Type 0} (kind : PolicyKind A) (o : Option Policy) (before now : Option A) → o ≡ None
    → IsStatedBy kind o before now → now ≡ before
gone kind o before now is h = subst (λ (q : Option Policy). IsStatedBy kind q before now) is h

-- the policy that was written for a field states what was written
pub states-written : (f : Field) (p : Policy) (x : FieldValue f) (ps : List Policy) (s : Stated)
    → stated_value (field.kind_of f) p ≡ Ok (Some x) → policy_named ps (field.name_of f) ≡ Some p → stated ps ≡ Ok s
    → field.value_in f s ≡ Some x
states-written f p x ps s back is e =
    let h =
    there (field.kind_of f) (policy_named ps (field.name_of f)) p None (field.value_in f s) is (is-stated f ps s e) in
    ok-is (field.value_in f s) (Some x) (sym h ∙ back)

pub states-no-start : (ps : List Policy) (s : Stated) → policy_named ps (codes "starting_trader") ≡ None
    → stated ps ≡ Ok s → s.start ≡ None
states-no-start ps s is e =
    gone (texts 64) (policy_named ps (codes "starting_trader")) None s.start is (is-stated field.start ps s e)

not-both : {A F : Type 0} (x : A) (f : F) → (let r : Result A F = Ok x in r) ≡ Err f → ⊥
not-both x f e = cc

-- an identifier of more than 256 octets is refused
too-long : (id : List ℕ) → 256 < length id
    → stated_value (octets 256) (identifier_policy id) ≡ Err (fault.InvalidPolicyValue (identifier_policy id))
too-long id lt =
    let vs : List Value = map (λ (o : ℕ). value.Octet o) id in
    let size : length vs ≡ length id = length-map id (λ (o : ℕ). value.Octet o) in
    let long : nat_le (length vs) 256 ≡ false = lt-leb (length vs) 256 (omega (arith, lt, size)) in
    let none : (octets 256).value_of (value.Items vs) ≡ None =
    ap (items_in octet_of 256) (value-items vs) ∙ ap (λ (b : Bool). if b then items_of octet_of vs else None) long in
    ap (λ (b : Bool). if b then valid (identifier_policy id) ((octets 256).value_of (value.Items vs))
    else Err (fault.PolicyTypeMismatch (identifier_policy id))) (same-refl (octets 256).code (octets_alone 256))
    ∙ ap (valid (identifier_policy id)) none

-- and a path of more than 64 names
too-many : (xs : List (List ℕ)) → 64 < length xs
    → stated_value (texts 64) (start_policy xs) ≡ Err (fault.InvalidPolicyValue (start_policy xs))
too-many xs lt =
    let vs : List Value = map (λ (t : List ℕ). value.Str t) xs in
    let size : length vs ≡ length xs = length-map xs (λ (t : List ℕ). value.Str t) in
    let long : nat_le (length vs) 64 ≡ false = lt-leb (length vs) 64 (omega (arith, lt, size)) in
    let none : (texts 64).value_of (value.Items vs) ≡ None =
    ap (items_in text_of 64) (value-items vs) ∙ ap (λ (b : Bool). if b then items_of text_of vs else None) long in
    ap (λ (b : Bool). if b then valid (start_policy xs) ((texts 64).value_of (value.Items vs))
    else Err (fault.PolicyTypeMismatch (start_policy xs))) (same-refl (texts 64).code (texts_alone 64))
    ∙ ap (valid (start_policy xs)) none

pub states-identifier : (id : List ℕ) (ps : List Policy) (s : Stated)
    → policy_named ps (codes "request_id") ≡ Some (identifier_policy id) → stated ps ≡ Ok s → s.request_id ≡ Some id
states-identifier id ps s is e =
    let h =
    there (octets 256) (policy_named ps (codes "request_id")) (identifier_policy id) None s.request_id is
    (is-stated field.request_id ps s e) in
    elim (cases_lt 256 (length id)) [
      | inl lt ↦ absurd
          (not-both s.request_id (fault.InvalidPolicyValue (identifier_policy id)) (sym h ∙ too-long id lt))
      | inr le ↦ ok-is s.request_id (Some id) (sym h ∙ octets_back (codes "request_id") id 256 le)
    ]

pub states-start : (xs : List (List ℕ)) (ps : List Policy) (s : Stated)
    → policy_named ps (codes "starting_trader") ≡ Some (start_policy xs) → stated ps ≡ Ok s → s.start ≡ Some xs
states-start xs ps s is e =
    let h =
    there (texts 64) (policy_named ps (codes "starting_trader")) (start_policy xs) None s.start is
    (is-stated field.start ps s e) in
    elim (cases_lt 64 (length xs)) [
      | inl lt ↦ absurd (not-both s.start (fault.InvalidPolicyValue (start_policy xs)) (sym h ∙ too-many xs lt))
      | inr le ↦ ok-is s.start (Some xs) (sym h ∙ texts_back (codes "starting_trader") xs 64 le)
    ]
