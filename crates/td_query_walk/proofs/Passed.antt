-- What the policies of a sub-query state.
use Rattle.std.proofs.Common.{◌≡◌, ℕ, ◌-◌, ◌≤◌, Bool, true, false, List, [], ◌∷◌, Option, Some, None, Ok}
use Rattle.std.proofs.Common.{is_some, refl, sym, ap, ◌∙◌, subst, arith, codes, if◌then◌else◌}
use Rattle.std.specs.Str.{bytes_eq}
use Rattle.std.proofs.lemmas.Bool.{ltb-false}
use Rattle.td_policy.proofs.ReadBack.{number_back, rule_back}
use Rattle.td_policy.specs.Rules.{pass_on}
use Rattle.td_policy.specs.Stated.{stated}
use Rattle.td_policy.specs.Values.{PolicyKind, number, octets, policy, rule}
use Rattle.td_policy.specs.declared.stated.Stated.{Stated}
use Rattle.td_store.specs.declared.local.Local.{Local}
use Rattle.td_store.specs.declared.record.LinkRecord.{LinkRecord}
use Rattle.td_store.specs.declared.record.ProxyPart.{ProxyPart}
use Rattle.td_value.specs.declared.enumerations.FollowOption.{FollowOption}
use Rattle.td_value.specs.declared.structures.Policy.{Policy}
use Rattle.td_walk.proofs.Held.{held}
use Rattle.td_walk.specs.Passing.{policy_named, with_search_policies, along_path, start_policy, number_in, is_less}
use Rattle.td_walk.specs.Passing.{with_all_passed}
use Rattle.td_walk.specs.SubQueries.{link_query, proxy_query, stated_rule}
use Rattle.td_policy.specs.Fields as field
use Rattle.td_policy.specs.Fields.{Field}
use Rattle.td_query_walk.proofs.Fields.{is-stated}
use Rattle.td_query_walk.specs.SubQueryLaws.{KeepsOthers, OverALink, ToAProxy, AlongAPath, in_its_place, is_replaced}
use Rattle.td_query_walk.specs.SubQueryLaws.{some_left}
use Rattle.td_query_walk.proofs.Choosing.{ChoosesBy, all-keep, least_by, leaves-identifier, fewer-hops, fewer-offers}
use Rattle.td_query_walk.proofs.Named.{put-is-named, taken-is-gone}
use Rattle.td_query_walk.proofs.Replaced.{hops-there, start-gone, replaced-stays, identifier-there, follow-there}
use Rattle.td_query_walk.proofs.Replaced.{path-stays, card-there, card-untouched, there, states-written}
use Rattle.td_query_walk.proofs.Replaced.{states-no-start, states-identifier, states-start}
use Rattle.td_query_walk.proofs.Stating.{IsStatedBy, some-is, same-stated}

-- ---- what stays

-- a field whose policy stays
kept : {A : Type 0} (kind : PolicyKind A) (name : List ℕ) (ps qs : List Policy) (x y : Option A)
    → policy_named qs name ≡ policy_named ps name → IsStatedBy kind (policy_named ps name) None x
    → IsStatedBy kind (policy_named qs name) None y → y ≡ x
kept {A} kind name ps qs x y stays before after =
    same-stated kind (policy_named ps name) None y x
    (subst (λ (o : Option Policy). IsStatedBy kind o None y) stays after) before

-- a name that is none of a policy that a sub-query replaces
pub record IsOther (name : List ℕ) : Type 0 where
  pub not_card : bytes_eq (codes "return_card") name ≡ false
  pub not_identifier : bytes_eq (codes "request_id") name ≡ false
  pub not_rule : bytes_eq (codes "link_follow_rule") name ≡ false
  pub not_hops : bytes_eq (codes "hop_count") name ≡ false
  pub not_start : bytes_eq (codes "starting_trader") name ≡ false
  pub is_no_card : bytes_eq name (codes "return_card") ≡ false
  pub is_no_identifier : bytes_eq name (codes "request_id") ≡ false
  pub is_no_rule : bytes_eq name (codes "link_follow_rule") ≡ false
  pub is_no_hops : bytes_eq name (codes "hop_count") ≡ false
  pub is_no_start : bytes_eq name (codes "starting_trader") ≡ false

pub other-name : (f : Field) → is_replaced f ≡ false → IsOther (field.name_of f)
other-name field.hops h = absurd (let bad : ⊥ = cc in bad)
other-name field.follow h = absurd (let bad : ⊥ = cc in bad)
other-name field.return_card h = absurd (let bad : ⊥ = cc in bad)
other-name field.start h = absurd (let bad : ⊥ = cc in bad)
other-name field.request_id h = absurd (let bad : ⊥ = cc in bad)
other-name _ h = record {
  not_card = refl;
  not_identifier = refl;
  not_rule = refl;
  not_hops = refl;
  not_start = refl;
  is_no_card = refl;
  is_no_identifier = refl;
  is_no_rule = refl;
  is_no_hops = refl;
  is_no_start = refl;
}

-- where the policies stay that nothing replaces, what they state does
keeps-others : (ps qs : List Policy) (before s : Stated) → stated ps ≡ Ok before → stated qs ≡ Ok s
    → ((name : List ℕ) → IsOther name → policy_named qs name ≡ policy_named ps name) → KeepsOthers before s
keeps-others ps qs before s d e stays f free =
    kept (field.kind_of f) (field.name_of f) ps qs (field.value_in f before) (field.value_in f s)
    (stays (field.name_of f) (other-name f free)) (is-stated f ps before d) (is-stated f qs s e)

-- ---- over a link

-- how many offers are to be returned: as many as are still wanted, where that is limited, and else as was stated
card-in-its-place : (wanted : Option ℕ) (l : Local) (r : Option FollowOption) (s : Stated)
    → stated (with_search_policies l.effective.hops r l.identifier wanted l.query.policies) ≡ Ok s
    → stated l.query.policies ≡ Ok l.stated → s.return_card ≡ in_its_place wanted l.stated.return_card
card-in-its-place None l r s e d =
    let qs = with_search_policies l.effective.hops r l.identifier None l.query.policies in
    kept number (codes "return_card") l.query.policies qs l.stated.return_card s.return_card
    (card-untouched l.effective.hops r l.identifier l.query.policies)
    (is-stated field.return_card l.query.policies l.stated d) (is-stated field.return_card qs s e)
card-in-its-place (Some n) l r s e d =
    states-written field.return_card (policy number (codes "return_card") n) n
    (with_search_policies l.effective.hops r l.identifier (Some n) l.query.policies) s (number_back (codes "return_card") n)
    (card-there l.effective.hops r l.identifier n l.query.policies) e

pub over_a_link : (l : Local) (wanted : Option ℕ) (link : LinkRecord) (s : Stated)
    → stated (link_query l wanted link).policies ≡ Ok s → OverALink l wanted link s
unfolding link_query
over_a_link l wanted link s e =
    let r = pass_on l.stated l.attributes link.limiting link.def_pass_on in
    let ps = with_search_policies l.effective.hops (Some r) l.identifier wanted l.query.policies in
    record {
      hops =
          states-written field.hops (policy number (codes "hop_count") (l.effective.hops - 1)) (l.effective.hops - 1) ps s
          (number_back (codes "hop_count") (l.effective.hops - 1))
          (hops-there l.effective.hops (Some r) l.identifier wanted l.query.policies) e;
      rule =
          states-written field.follow (policy rule (codes "link_follow_rule") r) r ps s (rule_back (codes "link_follow_rule") r)
          (follow-there l.effective.hops r l.identifier wanted l.query.policies) e;
      start = states-no-start ps s (start-gone l.effective.hops (Some r) l.identifier wanted l.query.policies) e;
      identifier =
          λ id is. states-identifier id ps s
          (rw is (identifier-there l.effective.hops (Some r) id wanted l.query.policies)) e;
      card = λ d. card-in-its-place wanted l (Some r) s e d;
      others =
          λ d. keeps-others l.query.policies ps l.stated s d e
          (λ name o. replaced-stays l.effective.hops (Some r) l.identifier wanted l.query.policies name o.not_card
          o.not_identifier o.not_rule o.not_hops o.is_no_start);
    }

-- ---- to a proxy offer's trader

pub identifier-kept : (limited : Bool) (passed ps : List Policy)
    → policy_named (with_all_passed limited passed ps) (codes "request_id") ≡ policy_named ps (codes "request_id")
identifier-kept limited passed ps =
    all-keep limited (codes "request_id") (λ (o : Option Policy). o ≡ policy_named ps (codes "request_id"))
    (λ qs p is h. leaves-identifier limited qs p is ∙ h) passed ps refl

-- a policy is there, and it states no more than so many, or can't be read
record HasAtMost (most : ℕ) (o : Option Policy) : Type 0 where
  policy : Policy
  there : o ≡ Some policy
  bounded : (n : ℕ) → number_in policy ≡ Some n → n ≤ most

less-bounds : (o : Option ℕ) (m n : ℕ) → is_less o (Some n) ≡ false → ((k : ℕ) → o ≡ Some k → k ≤ m) → n ≤ m
less-bounds None m n e h = absurd cc
less-bounds (Some k) m n e h = omega (arith, ltb-false k n e, h k refl)

least-has : (most : ℕ) (p : Policy) (o : Option Policy) → HasAtMost most o → HasAtMost most (least_by number_in p o)
least-has most p o h =
    subst (λ (o : Option Policy). HasAtMost most (least_by number_in p o)) (sym h.there)
    (by_less (is_less (number_in h.policy) (number_in p)) refl)
  where
    by_less : (b : Bool) → is_less (number_in h.policy) (number_in p) ≡ b
        → HasAtMost most (if b then Some h.policy else Some p)
    by_less true less = record { policy = h.policy; there = refl; bounded = h.bounded }
    by_less false less = record {
      policy = p;
      there = refl;
      bounded =
          λ n e. less-bounds (number_in h.policy) most n (ap (is_less (number_in h.policy)) (sym e) ∙ less) h.bounded;
    }

written-has : (name : List ℕ) (n : ℕ) (o : Option Policy) → o ≡ Some (policy number name n) → HasAtMost n o
written-has name n o is = record { policy = policy number name n; there = is; bounded = bounds }
  where
    bounds : (k : ℕ) → number_in (policy number name n) ≡ Some k → k ≤ n
    bounds k e =
        let h = held number (policy number name n) (Some n) (number_back name n) in
        let before : n ≡ h.0 = some-is n h.0 h.1 in
        let after : h.0 ≡ k = some-is h.0 k (sym h.2 ∙ e) in
        omega (arith, before, after)

-- of what a sub-query states under a name and what is passed on the least can be read as a number, and no more than so
-- many
states-few : (limited : Bool) (name : List ℕ) → ChoosesBy limited name (least_by number_in) → (most : ℕ)
    (passed ps : List Policy) (x : Option ℕ) → policy_named ps name ≡ Some (policy number name most)
    → IsStatedBy number (policy_named (with_all_passed limited passed ps) name) None x
    → (n : ℕ) × (x ≡ Some n) × (n ≤ most)
states-few limited name least most passed ps x written by =
    let h =
    all-keep limited name (HasAtMost most)
    (λ qs p is h. subst (HasAtMost most) (sym (least qs p is)) (least-has most p (policy_named qs name) h)) passed ps
    (written-has name most (policy_named ps name) written) in
    let value = there number (policy_named (with_all_passed limited passed ps) name) h.policy None x h.there by in
    let is = held number h.policy x value in
    (is.0, is.1, h.bounded is.0 is.2)

card-is-few : (l : Local) (wanted : Option ℕ) (part : ProxyPart) (n : ℕ) (s : Stated) → wanted ≡ Some n
    → stated (with_all_passed (is_some wanted) part.policies (with_search_policies l.effective.hops
    (stated_rule l.stated.follow l.attributes.max_follow_policy) l.identifier wanted l.query.policies)) ≡ Ok s
    → (m : ℕ) × (s.return_card ≡ Some m) × (m ≤ n)
card-is-few l None part n s is e = absurd cc
card-is-few l (Some k) part n s is e =
    let r = stated_rule l.stated.follow l.attributes.max_follow_policy in
    let ps = with_search_policies l.effective.hops r l.identifier (Some k) l.query.policies in
    subst (λ (n : ℕ). (m : ℕ) × (s.return_card ≡ Some m) × (m ≤ n)) (some-is k n is)
    (states-few true (codes "return_card") fewer-offers k part.policies ps s.return_card
    (card-there l.effective.hops r l.identifier k l.query.policies)
    (is-stated field.return_card (with_all_passed true part.policies ps) s e))

pub to_a_proxy : (l : Local) (wanted : Option ℕ) (part : ProxyPart) (constraint : List ℕ) (s : Stated)
    → stated (proxy_query l wanted part constraint).policies ≡ Ok s → ToAProxy l wanted s
unfolding proxy_query
to_a_proxy l wanted part constraint s e =
    let r = stated_rule l.stated.follow l.attributes.max_follow_policy in
    let ps = with_search_policies l.effective.hops r l.identifier wanted l.query.policies in
    let all = with_all_passed (is_some wanted) part.policies ps in
    record {
      hops =
          states-few (is_some wanted) (codes "hop_count") (fewer-hops (is_some wanted)) (l.effective.hops - 1)
          part.policies ps s.hops (hops-there l.effective.hops r l.identifier wanted l.query.policies)
          (is-stated field.hops all s e);
      identifier =
          λ id is. states-identifier id all s
          (identifier-kept (is_some wanted) part.policies ps
          ∙ rw is (identifier-there l.effective.hops r id wanted l.query.policies)) e;
      card = λ n is. card-is-few l wanted part n s is e;
    }

-- ---- along a path

path-start : (left : List (List ℕ)) (ps : List Policy) (s : Stated) → stated (along_path left ps) ≡ Ok s
    → s.start ≡ some_left left
path-start [] ps s e = states-no-start (along_path [] ps) s (taken-is-gone (codes "starting_trader") ps) e
path-start (name ∷ names) ps s e =
    states-start (name ∷ names) (along_path (name ∷ names) ps) s (put-is-named (start_policy (name ∷ names)) ps) e

pub along_a_path : (left : List (List ℕ)) (ps : List Policy) (before s : Stated) → stated ps ≡ Ok before
    → stated (along_path left ps) ≡ Ok s → AlongAPath left before s
along_a_path left ps before s d e =
    let qs = along_path left ps in
    record {
      start = path-start left ps s e;
      hops =
          kept number (codes "hop_count") ps qs before.hops s.hops (path-stays (codes "hop_count") left ps refl refl)
          (is-stated field.hops ps before d) (is-stated field.hops qs s e);
      rule =
          kept rule (codes "link_follow_rule") ps qs before.follow s.follow
          (path-stays (codes "link_follow_rule") left ps refl refl) (is-stated field.follow ps before d) (is-stated field.follow qs s e);
      identifier =
          kept (octets 256) (codes "request_id") ps qs before.request_id s.request_id
          (path-stays (codes "request_id") left ps refl refl) (is-stated field.request_id ps before d)
          (is-stated field.request_id qs s e);
      card =
          kept number (codes "return_card") ps qs before.return_card s.return_card
          (path-stays (codes "return_card") left ps refl refl) (is-stated field.return_card ps before d)
          (is-stated field.return_card qs s e);
      others = keeps-others ps qs before s d e (λ name o. path-stays name left ps o.not_start o.is_no_start);
    }
