-- What the policies that a proxy offer passes on make of the one of their name.
use Rattle.std.proofs.Common.{◌≡◌, ℕ, Bool, true, false, List, [], ◌∷◌, Option, Some, None, refl, sym, ap, ◌∙◌, subst}
use Rattle.std.proofs.Common.{◌&&◌, codes, if◌then◌else◌}
use Rattle.std.specs.Str.{bytes_eq}
use Rattle.td_value.specs.declared.structures.Policy.{Policy}
use Rattle.td_walk.specs.Passing.{is_named, policy_named, with_policy, follow_in, number_in, is_less, states_less}
use Rattle.td_walk.specs.Passing.{stands, with_passed, with_all_passed}
use Rattle.td_query_walk.proofs.Named.{same-name, put-is-named, others-stay}

-- under a name that isn't this one's all stays
pub stays-by-one : (limited : Bool) (name : List ℕ) (ps : List Policy) (p : Policy) → is_named name p ≡ false
    → policy_named (with_passed limited ps p) name ≡ policy_named ps name
stays-by-one limited name ps p other = by_test (stands limited ps p)
  where
    by_test : (b : Bool) → policy_named (if b then ps else with_policy p ps) name ≡ policy_named ps name
    by_test true = refl
    by_test false = others-stay name p ps other

-- what holds of the policy of a name stays so where each policy of that name keeps it
module _ (limited : Bool) (name : List ℕ) (Holds : Option Policy → Type 0)
    (keeps : (ps : List Policy) (p : Policy) → is_named name p ≡ true → Holds (policy_named ps name)
    → Holds (policy_named (with_passed limited ps p) name)) where
  pub all-keep : (passed ps : List Policy) → Holds (policy_named ps name)
      → Holds (policy_named (with_all_passed limited passed ps) name)
  all-keep [] ps h = h
  all-keep (p ∷ passed) ps h = all-keep passed (with_passed limited ps p) (by_name (is_named name p) refl)
    where
      by_name : (b : Bool) → is_named name p ≡ b → Holds (policy_named (with_passed limited ps p) name)
      by_name true is = keeps ps p is h
      by_name false other = subst Holds (sym (stays-by-one limited name ps p other)) h

-- ---- the choice for a name: what one policy of it makes of what stands there

abbrev pub Choice : Type 0
Choice = Policy → Option Policy → Option Policy

abbrev pub ChoosesBy : (limited : Bool) → (name : List ℕ) → Choice → Type 0
ChoosesBy limited name choice =
    (ps : List Policy) (p : Policy) → is_named name p ≡ true
    → policy_named (with_passed limited ps p) name ≡ choice p (policy_named ps name)

-- what stands is kept
abbrev pub leaves : Choice
leaves p before = before

abbrev pub replaces : Choice
replaces p before = Some p

-- the lesser stands
abbrev pub least_by : (Policy → Option ℕ) → Choice
least_by measure p None = Some p
least_by measure p (Some before) = if is_less (measure before) (measure p) then Some before else Some p

pub leaves-identifier : (limited : Bool) → ChoosesBy limited (codes "request_id") leaves
leaves-identifier limited ps p is = rw is refl

pub apart : (name other : List ℕ) (p : Policy) → is_named name p ≡ true → bytes_eq name other ≡ false
    → is_named other p ≡ false
apart name other p is differs = ap (λ (n : List ℕ). bytes_eq n other) (same-name p.name name is) ∙ differs

put-in-place : (name : List ℕ) (ps : List Policy) (p : Policy) → is_named name p ≡ true
    → policy_named (with_policy p ps) name ≡ Some p
put-in-place name ps p is =
    subst (λ (n : List ℕ). policy_named (with_policy p ps) n ≡ Some p) (same-name p.name name is) (put-is-named p ps)

pub replaces-by-one : (limited : Bool) (name : List ℕ) → bytes_eq name (codes "request_id") ≡ false
    → bytes_eq name (codes "hop_count") ≡ false → bytes_eq name (codes "link_follow_rule") ≡ false
    → (limited && bytes_eq name (codes "return_card")) ≡ false → ChoosesBy limited name replaces
replaces-by-one limited name a b c d ps p is =
    let any : (limited && is_named (codes "return_card") p) ≡ false =
    ap (λ (n : List ℕ). limited && bytes_eq n (codes "return_card")) (same-name p.name name is) ∙ d in
    let goes : stands limited ps p ≡ false =
    rw (
      apart name (codes "request_id") p is a,
      apart name (codes "hop_count") p is b,
      apart name (codes "link_follow_rule") p is c,
      any,
    ) refl in
    ap (λ (t : Bool). policy_named (if t then ps else with_policy p ps) name) goes ∙ put-in-place name ps p is

-- of two policies of this name the one that states less stands
abbrev LessStands : (limited : Bool) → (name : List ℕ) → (Policy → Option ℕ) → Type 0
LessStands limited name measure =
    (ps : List Policy) (p : Policy) → is_named name p ≡ true
    → stands limited ps p ≡ states_less measure (policy_named ps name) p

least-by-one : (limited : Bool) (name : List ℕ) (measure : Policy → Option ℕ) → LessStands limited name measure
    → ChoosesBy limited name (least_by measure)
least-by-one limited name measure stands-is ps p is =
    ap (λ (t : Bool). policy_named (if t then ps else with_policy p ps) name) (stands-is ps p is)
    ∙ by_earlier (policy_named ps name) refl
  where
    by_test : (q : Policy) → policy_named ps name ≡ Some q → (t : Bool)
        → policy_named (if t then ps else with_policy p ps) name ≡ (if t then Some q else Some p)
    by_test q there true = there
    by_test q there false = put-in-place name ps p is

    by_earlier : (o : Option Policy) → policy_named ps name ≡ o
        → policy_named (if states_less measure o p then ps else with_policy p ps) name ≡ least_by measure p o
    by_earlier None there = put-in-place name ps p is
    by_earlier (Some q) there = by_test q there (is_less (measure q) (measure p))

pub fewer-hops : (limited : Bool) → ChoosesBy limited (codes "hop_count") (least_by number_in)
fewer-hops limited =
    least-by-one limited (codes "hop_count") number_in
    (λ ps p is. rw (apart (codes "hop_count") (codes "request_id") p is refl, is) refl)

pub fewer-offers : ChoosesBy true (codes "return_card") (least_by number_in)
fewer-offers =
    least-by-one true (codes "return_card") number_in
    (λ ps p is. rw (
      apart (codes "return_card") (codes "request_id") p is refl,
      apart (codes "return_card") (codes "hop_count") p is refl,
      apart (codes "return_card") (codes "link_follow_rule") p is refl,
      is,
    ) refl)

pub stricter-rule : (limited : Bool) → ChoosesBy limited (codes "link_follow_rule") (least_by follow_in)
stricter-rule limited =
    least-by-one limited (codes "link_follow_rule") follow_in
    (λ ps p is. rw (
      apart (codes "link_follow_rule") (codes "request_id") p is refl,
      apart (codes "link_follow_rule") (codes "hop_count") p is refl,
      is,
    ) refl)
