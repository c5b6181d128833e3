-- Policies whose names are judged one by one.
use Rattle.std.proofs.Common.{◌≡◌, ℕ, ◌+◌, ◌<◌, ◌||◌, Bool, false, List, [], length, get_or, take, drop, map}
use Rattle.std.proofs.Common.{reverse, refl, sym, ap, subst}
use Rattle.std.specs.Str.{bytes_eq}
use Rattle.td_cdr.specs.Seen.{HaveSeen, has_seen}
use Rattle.td_exceptions.specs.declared.exception.UserException.TheVariants.{DuplicatePolicyName}
use Rattle.td_types.specs.Repository.{is_among}
use Rattle.td_value.specs.declared.structures.Policy.{Policy}
use Rattle.td_register.specs.Causes.{Cause, raise_if}
use Rattle.td_register.specs.Judged.{IsMet}
use Rattle.td_register.specs.Proxies.{policies_cause}
use Rattle.td_register.specs.declared.refusal.Fault.{Fault}
use Rattle.td_register.proofs.InOrder.{behind, notes, passes, stops}

abbrev name_of : Policy → List ℕ
name_of p = p.name

-- the names of the policies so far, the last one in front
abbrev pub met : List Policy → ℕ → List (List ℕ)
met ps i = reverse (map (λ (p : Policy). p.name) (take i ps))

abbrev pub policy_cause : List (List ℕ) → Policy → Cause
policy_cause before p = raise_if (is_among p.name before) (DuplicatePolicyName p.name)

pub seen_more : (seen new : List (List ℕ)) (ps : List Policy) (i : ℕ) (p : Policy) → i < length ps →
    p ≡ get_or ps i p → HaveSeen seen (met ps i) →
    ((other : List ℕ) → has_seen new other ≡ (bytes_eq p.name other || has_seen seen other)) →
    HaveSeen new (met ps (i + 1))
seen_more seen new ps i p lt is h added =
    subst (HaveSeen new) (sym (behind name_of ps i p lt is)) (notes seen new (met ps i) p.name h added)

pub bad_policy : (ps : List Policy) (i : ℕ) (p : Policy) (f : Fault) → i < length ps → p ≡ get_or ps i p →
    IsMet (policy_cause (met ps i) p) f → policies_cause (met ps i) (drop i ps) ≡ policies_cause [] ps →
    IsMet (policies_cause [] ps) f
bad_policy ps i p f lt is h so_far =
    stops name_of policy_cause policies_cause (met ps i) ps i p f (policies_cause [] ps) (λ b q qs. refl) lt is h so_far

pub good_policy : (ps : List Policy) (i : ℕ) (p : Policy) → i < length ps → p ≡ get_or ps i p →
    is_among p.name (met ps i) ≡ false → policies_cause (met ps i) (drop i ps) ≡ policies_cause [] ps →
    policies_cause (met ps (i + 1)) (drop (i + 1) ps) ≡ policies_cause [] ps
good_policy ps i p lt is e so_far =
    subst (λ (b : List (List ℕ)). policies_cause b (drop (i + 1) ps) ≡ policies_cause [] ps)
    (sym (behind name_of ps i p lt is))
    (passes name_of policy_cause policies_cause (met ps i) ps i p (policies_cause [] ps) (λ b q qs. refl) lt is
    (ap (λ (b : Bool). raise_if b (DuplicatePolicyName p.name)) e) so_far)
