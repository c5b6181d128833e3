-- What the policies of a sub-query to a proxy offer's trader state, where those that are passed on can be read.
use Rattle.std.proofs.Common.{◌≡◌, ℕ, ◌-◌, nat_lt, Bool, true, false, List, [], ◌∷◌, Option, Some, None, Ok}
use Rattle.std.proofs.Common.{is_some, ◌&&◌, refl, sym, ap, ◌∙◌, subst, cond, codes, if◌then◌else◌, option_map}
use Rattle.td_policy.proofs.ReadBack.{number_back, rule_back}
use Rattle.td_policy.specs.Rules.{lesser}
use Rattle.td_policy.specs.Stated.{nothing, stated, stated_after, stated_value}
use Rattle.td_policy.specs.Values.{PolicyKind, number, policy, rule, texts}
use Rattle.td_policy.specs.declared.stated.Stated.{Stated}
use Rattle.td_store.specs.declared.local.Local.{Local}
use Rattle.td_store.specs.declared.record.ProxyPart.{ProxyPart}
use Rattle.td_value.specs.Enumerations.{follow_option_number}
use Rattle.td_value.specs.declared.enumerations.FollowOption.{FollowOption}
use Rattle.td_value.specs.declared.structures.Policy.{Policy}
use Rattle.td_walk.proofs.Held.{held}
use Rattle.td_walk.specs.Passing.{is_named, policy_named, with_search_policies, number_in, follow_in, is_less}
use Rattle.td_walk.specs.Passing.{with_passed}
use Rattle.td_walk.specs.Passing.{with_all_passed}
use Rattle.td_walk.specs.SubQueries.{proxy_query, stated_rule}
use Rattle.td_policy.specs.Fields as field
use Rattle.td_policy.specs.Fields.{Field}
use Rattle.td_query_walk.proofs.Fields.{is-stated}
use Rattle.td_query_walk.specs.SubQueryLaws.{WithPassed, in_its_place, fewer, fewer_wanted, is_replaced, stricter}
use Rattle.td_query_walk.proofs.Choosing.{Choice, ChoosesBy, stays-by-one, replaces, replaces-by-one, least_by}
use Rattle.td_query_walk.proofs.Choosing.{fewer-hops, fewer-offers, stricter-rule}
use Rattle.td_query_walk.proofs.Named.{same-name}
use Rattle.td_query_walk.proofs.Passed.{other-name}
use Rattle.td_query_walk.proofs.Replaced.{hops-there, start-gone, replaced-stays, follow-there, rule-untouched}
use Rattle.td_query_walk.proofs.Replaced.{card-there, card-untouched}
use Rattle.td_query_walk.proofs.Stating.{IsStatedBy, ok-is, met-once, same-stated}

-- ---- the policy of a name, in a list that can be read

abbrev Reads : List (List ℕ) → Stated → List Policy → Stated → Type 0
Reads earlier s passed t = stated_after earlier s passed ≡ Ok t

abbrev chosen : Choice → Option Policy → Option Policy → Option Policy
chosen choice None before = before
chosen choice (Some p) before = choice p before

module _ (limited : Bool) (name : List ℕ) (choice : Choice)
    (by_one : ChoosesBy limited name choice) where
  all-chosen : (earlier : List (List ℕ)) (s t : Stated) (passed ps : List Policy) → Reads earlier s passed t
      → policy_named (with_all_passed limited passed ps) name
      ≡ chosen choice (policy_named passed name) (policy_named ps name)
  all-chosen earlier s t [] ps e = refl
  all-chosen earlier s t (p ∷ passed) ps e =
      let h = met-once earlier s t p passed e in
      by_name (all-chosen (p.name ∷ earlier) h.0 t passed (with_passed limited ps p) h.2) h.3 (is_named name p) refl
    where
      by_name : policy_named (with_all_passed limited passed (with_passed limited ps p)) name
          ≡ chosen choice (policy_named passed name) (policy_named (with_passed limited ps p) name)
          → policy_named passed p.name ≡ None → (b : Bool) → is_named name p ≡ b
          → policy_named (with_all_passed limited passed (with_passed limited ps p)) name
          ≡ chosen choice (cond b (Some p) (policy_named passed name)) (policy_named ps name)
      by_name rest once true is =
          let none : policy_named passed name ≡ None =
          subst (λ (n : List ℕ). policy_named passed n ≡ None) (same-name p.name name is) once in
          rest ∙ ap (λ (o : Option Policy). chosen choice o (policy_named (with_passed limited ps p) name)) none
          ∙ by_one ps p is
      by_name rest once false other =
          rest
          ∙ ap (λ (o : Option Policy). chosen choice (policy_named passed name) o) (stays-by-one limited name ps p other)

-- ---- what they state

-- a policy that stands in another's place
in-place : {A : Type 0} (kind : PolicyKind A) (o q : Option Policy) (x y z : Option A) → IsStatedBy kind o None x
    → IsStatedBy kind q None y → IsStatedBy kind (chosen replaces o q) None z → z ≡ in_its_place x y
in-place {A} kind None q x y z h k m = same-stated kind q None z y m k ∙ sym (ap (λ (o : Option A). in_its_place o y) h)
in-place {A} kind (Some p) q x y z h k m =
    let is = held kind p x h in
    let same : z ≡ x = ok-is z x (sym m ∙ h) in
    same ∙ is.1 ∙ sym (ap (λ (o : Option A). in_its_place o y) is.1)

-- of two that are stated the lesser
abbrev least : {A : Type 0} → (A → ℕ) → (passed before : Option A) → Option A
least number_of None before = before
least number_of (Some x) None = Some x
least number_of (Some x) (Some y) = Some (if nat_lt (number_of y) (number_of x) then y else x)

module _ {A : Type 0} (kind : PolicyKind A) (number_of : A → ℕ) (measure : Policy → Option ℕ)
    (numbered : (p : Policy) (x : A) → stated_value kind p ≡ Ok (Some x) → measure p ≡ Some (number_of x)) where
  lesser-states : (p before : Policy) (x y : A) (z : Option A) → stated_value kind p ≡ Ok (Some x)
      → stated_value kind before ≡ Ok (Some y) → IsStatedBy kind (least_by measure p (Some before)) None z
      → z ≡ least number_of (Some x) (Some y)
  lesser-states p before x y z h k m =
      by_test (is_less (measure before) (measure p)) refl m
    where
      same : is_less (measure before) (measure p) ≡ nat_lt (number_of y) (number_of x)
      same = rw (numbered before y k, numbered p x h) refl

      by_test : (t : Bool) → is_less (measure before) (measure p) ≡ t
          → IsStatedBy kind (if t then Some before else Some p) None z
          → z ≡ least number_of (Some x) (Some y)
      by_test true is m = rw (sym same ∙ is) (ok-is z (Some y) (sym m ∙ k))
      by_test false is m = rw (sym same ∙ is) (ok-is z (Some x) (sym m ∙ h))

  least-states : (o q : Option Policy) (x y z : Option A) → IsStatedBy kind o None x → IsStatedBy kind q None y
      → IsStatedBy kind (chosen (least_by measure) o q) None z → z ≡ least number_of x y
  least-states None q x y z h k m =
      same-stated kind q None z y m k ∙ sym (ap (λ (o : Option A). least number_of o y) h)
  least-states (Some p) None x y z h k m =
      let is = held kind p x h in
      let same : z ≡ x = ok-is z x (sym m ∙ h) in
      same ∙ is.1 ∙ sym (ap (λ (o : Option A). least number_of o None) is.1)
      ∙ sym (ap (λ (o : Option A). least number_of x o) k)
  least-states (Some p) (Some before) x y z h k m =
      let is = held kind p x h in
      let was = held kind before y k in
      let now-is : stated_value kind p ≡ Ok (Some is.0) = subst (λ (o : Option A). stated_value kind p ≡ Ok o) is.1 h in
      let then-is : stated_value kind before ≡ Ok (Some was.0) =
      subst (λ (o : Option A). stated_value kind before ≡ Ok o) was.1 k in
      lesser-states p before is.0 was.0 z now-is then-is m
      ∙ sym (ap (λ (o : Option A). least number_of o (Some was.0)) is.1)
      ∙ sym (ap (λ (o : Option A). least number_of x o) was.1)

is-numbered : (p : Policy) (n : ℕ) → stated_value number p ≡ Ok (Some n) → number_in p ≡ Some n
is-numbered p n e = let is = held number p (Some n) e in is.2 ∙ sym is.1

rules-numbered : (p : Policy) (r : FollowOption) → stated_value rule p ≡ Ok (Some r)
    → follow_in p ≡ Some (follow_option_number r)
rules-numbered p r e =
    let is = held rule p (Some r) e in
    ap (λ (o : Option FollowOption). option_map follow_option_number o) (is.2 ∙ sym is.1)

-- of two numbers of one name the lesser
number-states : (name : List ℕ) (o : Option Policy) (n : ℕ) (x z : Option ℕ) → IsStatedBy number o None x
    → IsStatedBy number (chosen (least_by number_in) o (Some (policy number name n))) None z → z ≡ Some (fewer x n)
number-states name o n x z h m =
    least-states number (λ (m : ℕ). m) number_in is-numbered o (Some (policy number name n)) x (Some n) z h
    (number_back name n) m
    ∙ by_passed x
  where
    by_passed : (x : Option ℕ) → least (λ (m : ℕ). m) x (Some n) ≡ Some (fewer x n)
    by_passed None = refl
    by_passed (Some m) = refl

rules-state : (o q : Option Policy) (x y z : Option FollowOption) → IsStatedBy rule o None x → IsStatedBy rule q None y
    → IsStatedBy rule (chosen (least_by follow_in) o q) None z → z ≡ stricter x y
rules-state o q x y z h k m =
    least-states rule follow_option_number follow_in rules-numbered o q x y z h k m ∙ by_both x y
  where
    by_both : (x y : Option FollowOption) → least follow_option_number x y ≡ stricter x y
    by_both None y = refl
    by_both (Some r) None = refl
    by_both (Some r) (Some before) = refl

-- ---- the rule before it, where one is stated

rule-before : (l : Local) (wanted : Option ℕ) → stated l.query.policies ≡ Ok l.stated
    → IsStatedBy rule
    (policy_named
    (with_search_policies l.effective.hops (stated_rule l.stated.follow l.attributes.max_follow_policy) l.identifier
    wanted l.query.policies) (codes "link_follow_rule"))
    None (stated_rule l.stated.follow l.attributes.max_follow_policy)
rule-before l wanted d = by_rule l.stated.follow refl
  where
    named : Option FollowOption → Option Policy
    named r = policy_named (with_search_policies l.effective.hops r l.identifier wanted l.query.policies) (codes "link_follow_rule")

    by_rule : (o : Option FollowOption) → l.stated.follow ≡ o
        → IsStatedBy rule (named (stated_rule o l.attributes.max_follow_policy)) None
        (stated_rule o l.attributes.max_follow_policy)
    by_rule (Some r) is =
        subst (λ (p : Option Policy). IsStatedBy rule p None (Some (lesser r l.attributes.max_follow_policy)))
        (sym (follow-there l.effective.hops (lesser r l.attributes.max_follow_policy) l.identifier wanted
        l.query.policies))
        (rule_back (codes "link_follow_rule") (lesser r l.attributes.max_follow_policy))
    by_rule None is =
        subst (λ (p : Option Policy). IsStatedBy rule p None None)
        (sym (rule-untouched l.effective.hops l.identifier wanted l.query.policies))
        (subst
        (λ (o : Option FollowOption). IsStatedBy rule (policy_named l.query.policies (codes "link_follow_rule")) None o)
        is (is-stated field.follow l.query.policies l.stated d))

-- ---- the law

-- a start elsewhere is what is passed on
kept-start : (o : Option (List (List ℕ))) → in_its_place o None ≡ o
kept-start None = refl
kept-start (Some names) = refl

and-false : (b : Bool) → (b && false) ≡ false
and-false true = refl
and-false false = refl

abbrev before_passing : Local → (wanted : Option ℕ) → List Policy
before_passing l wanted =
    with_search_policies l.effective.hops (stated_rule l.stated.follow l.attributes.max_follow_policy) l.identifier
    wanted l.query.policies

module _ (l : Local) (wanted : Option ℕ) (part : ProxyPart) (passed s : Stated) (p : stated part.policies ≡ Ok passed)
    (e : stated (with_all_passed (is_some wanted) part.policies (before_passing l wanted)) ≡ Ok s) where
  own : (f : Field) → IsStatedBy (field.kind_of f) (policy_named part.policies (field.name_of f)) None
      (field.value_in f passed)
  own f = is-stated f part.policies passed p

  -- what is stated where one policy is passed on and another stood before
  met : (f : Field) (choice : Choice) (before : Option Policy) → ChoosesBy (is_some wanted) (field.name_of f) choice
      → policy_named (before_passing l wanted) (field.name_of f) ≡ before
      → IsStatedBy (field.kind_of f) (chosen choice (policy_named part.policies (field.name_of f)) before) None
      (field.value_in f s)
  met f choice before by_one stood =
      subst (λ (o : Option Policy). IsStatedBy (field.kind_of f) o None (field.value_in f s))
      (all-chosen (is_some wanted) (field.name_of f) choice by_one [] nothing passed part.policies
      (before_passing l wanted) p
      ∙ ap (chosen choice (policy_named part.policies (field.name_of f))) stood)
      (is-stated f (with_all_passed (is_some wanted) part.policies (before_passing l wanted)) s e)

  -- where it replaces what was stated and stays
  replaced-by : (f : Field) → stated l.query.policies ≡ Ok l.stated
      → ChoosesBy (is_some wanted) (field.name_of f) replaces
      → policy_named (before_passing l wanted) (field.name_of f) ≡ policy_named l.query.policies (field.name_of f)
      → field.value_in f s ≡ in_its_place (field.value_in f passed) (field.value_in f l.stated)
  replaced-by f d by_one stays =
      in-place (field.kind_of f) (policy_named part.policies (field.name_of f))
      (policy_named l.query.policies (field.name_of f)) (field.value_in f passed) (field.value_in f l.stated)
      (field.value_in f s) (own f) (is-stated f l.query.policies l.stated d)
      (met f replaces (policy_named l.query.policies (field.name_of f)) by_one stays)

  passed-on : (f : Field) → stated l.query.policies ≡ Ok l.stated → is_replaced f ≡ false
      → field.value_in f s ≡ in_its_place (field.value_in f passed) (field.value_in f l.stated)
  passed-on f d free =
      let name = field.name_of f in
      let o = other-name f free in
      let r = stated_rule l.stated.follow l.attributes.max_follow_policy in
      replaced-by f d
      (replaces-by-one (is_some wanted) name o.is_no_identifier o.is_no_hops o.is_no_rule
      (ap (λ (t : Bool). is_some wanted && t) o.is_no_card ∙ and-false (is_some wanted)))
      (replaced-stays l.effective.hops r l.identifier wanted l.query.policies name o.not_card o.not_identifier
      o.not_rule o.not_hops o.is_no_start)

-- how many offers are to be returned
card-passed-on : (l : Local) (wanted : Option ℕ) (part : ProxyPart) (passed s : Stated)
    → stated l.query.policies ≡ Ok l.stated → stated part.policies ≡ Ok passed
    → stated (with_all_passed (is_some wanted) part.policies (before_passing l wanted)) ≡ Ok s
    → s.return_card ≡ fewer_wanted wanted passed.return_card l.stated.return_card
card-passed-on l None part passed s d p e =
    replaced-by l None part passed s p e field.return_card d
    (replaces-by-one false (codes "return_card") refl refl refl refl)
    (card-untouched l.effective.hops (stated_rule l.stated.follow l.attributes.max_follow_policy) l.identifier
    l.query.policies)
card-passed-on l (Some n) part passed s d p e =
    number-states (codes "return_card") (policy_named part.policies (codes "return_card")) n passed.return_card
    s.return_card (own l (Some n) part passed s p e field.return_card)
    (met l (Some n) part passed s p e field.return_card (least_by number_in)
    (Some (policy number (codes "return_card") n)) fewer-offers
    (card-there l.effective.hops (stated_rule l.stated.follow l.attributes.max_follow_policy) l.identifier n
    l.query.policies))

pub with_passed_on : (l : Local) (wanted : Option ℕ) (part : ProxyPart) (constraint : List ℕ) (passed s : Stated)
    → stated l.query.policies ≡ Ok l.stated → stated part.policies ≡ Ok passed
    → stated (proxy_query l wanted part constraint).policies ≡ Ok s → WithPassed l wanted passed s
unfolding proxy_query
with_passed_on l wanted part constraint passed s d p e =
    let r = stated_rule l.stated.follow l.attributes.max_follow_policy in
    let ps = before_passing l wanted in
    record {
      hops =
          number-states (codes "hop_count") (policy_named part.policies (codes "hop_count")) (l.effective.hops - 1) passed.hops s.hops
          (own l wanted part passed s p e field.hops)
          (met l wanted part passed s p e field.hops (least_by number_in)
          (Some (policy number (codes "hop_count") (l.effective.hops - 1))) (fewer-hops (is_some wanted))
          (hops-there l.effective.hops r l.identifier wanted l.query.policies));
      rule =
          rules-state (policy_named part.policies (codes "link_follow_rule"))
          (policy_named ps (codes "link_follow_rule")) passed.follow r s.follow
          (own l wanted part passed s p e field.follow) (rule-before l wanted d)
          (met l wanted part passed s p e field.follow (least_by follow_in)
          (policy_named ps (codes "link_follow_rule")) (stricter-rule (is_some wanted)) refl);
      start =
          in-place (texts 64) (policy_named part.policies (codes "starting_trader")) None passed.start None s.start
          (own l wanted part passed s p e field.start) refl
          (met l wanted part passed s p e field.start replaces None
          (replaces-by-one (is_some wanted) (codes "starting_trader") refl refl refl (and-false (is_some wanted)))
          (start-gone l.effective.hops r l.identifier wanted l.query.policies))
          ∙ kept-start passed.start;
      return_card = card-passed-on l wanted part passed s d p e;
      others = λ f free. passed-on l wanted part passed s p e f d free;
    }
