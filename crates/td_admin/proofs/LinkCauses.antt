-- A link that is added, or refused: the limit is met behind all other causes.
use Rattle.std.proofs.Common.{◌≡◌, ℕ, ◌<◌, ◌≤◌, Bool, true, false, List, [], ◌∷◌, ◌++◌, length, nat_le, Option, Some}
use Rattle.std.proofs.Common.{None, Ok, Err, refl, sym, ap, ◌∙◌, arith}
use Rattle.std.proofs.lemmas.Bool.Decides.{nat_tests}
use Rattle.td_typecode.specs.declared.reference.Ior.{Ior}
use Rattle.td_ops.specs.declared.call.Change.TheVariants as change
use Rattle.td_ops.specs.declared.outcome.Reply.TheVariants as reply
use Rattle.td_store.specs.LinkLists.{most_links}
use Rattle.td_store.specs.declared.record.LinkRecord.{LinkRecord}
use Rattle.td_value.specs.declared.enumerations.FollowOption.{FollowOption}
use Rattle.td_register.specs.Causes.{Cause, ChangeResult, limit_if, unless, unless_full, ◌otherwise◌}
use Rattle.td_register.specs.Entries.{entry}
use Rattle.td_register.specs.declared.history.Accepted.{Accepted}
use Rattle.td_register.specs.declared.refusal.Refusal.TheVariants.{Limit}
use Rattle.td_ops.specs.declared.call.Change.{Change}
use Rattle.td_register.specs.Judged.{AcceptsChange, IsMet}
use Rattle.td_admin.specs.LinkJudged.{IsLinked, link_cause}
use Rattle.td_admin.specs.Links.{add_link_cause, name_cause, new_links, rules_cause, target_cause}
use Rattle.td_register.specs.Stores.{Store}
use Rattle.td_register.specs.declared.refusal.Fault.{Fault}
use Rattle.td_register.specs.declared.refusal.Fault.TheVariants.{Refused, Memory}
use Rattle.td_register.specs.declared.refusal.Refusal.{Refusal}
use Rattle.td_register.proofs.Otherwise.{is_refused, is_accepted}

abbrev limited : (a b c : Cause) (passed : Bool) → Cause
limited a b c passed = a otherwise b otherwise c otherwise limit_if passed

limited-met : (a b c : Cause) (passed : Bool) (f : Fault) → IsMet (a otherwise b otherwise c) f →
    IsMet (limited a b c passed) f
limited-met (Some y) b c passed f h = h
limited-met None (Some y) c passed f h = h
limited-met None None (Some y) passed f h = h
limited-met None None None passed (Refused x) h = absurd cc
limited-met None None None passed Memory h = tt

limited-is : (a b c : Cause) (passed : Bool) → (a otherwise b otherwise c) ≡ None →
    limited a b c passed ≡ limit_if passed
limited-is (Some y) b c passed h = absurd cc
limited-is None (Some y) c passed h = absurd cc
limited-is None None (Some y) passed h = absurd cc
limited-is None None None passed h = refl

module _ (s : Store) (name : List ℕ) (target : Ior) (def_pass_on limiting : FollowOption) (register : Option Ior) where
  abbrev cause : Cause
  cause = link_cause s name target def_pass_on limiting register

  abbrev whole : Cause
  whole = add_link_cause s name target def_pass_on limiting register

  abbrev passed : Bool
  passed = nat_le most_links (length s.links)

  whole-is : cause ≡ None → whole ≡ limit_if passed
  whole-is h =
      limited-is (name_cause s.links name) (target_cause target register) (rules_cause
      s.attributes.max_link_follow_policy def_pass_on limiting) passed h

  abbrev after : Store
  after = record s { links = s.links ++ new_links name target def_pass_on limiting register }

  abbrev c : Change
  c = change.AddLink name target def_pass_on limiting register

  -- no link is made, and the change is refused
  pub not_made : (full : Bool) (f : Fault) → IsMet cause f →
      AcceptsChange c (unless_full full whole reply.Nothing after) s s (Err f)
  not_made full f h =
      is_refused c full whole reply.Nothing s after f
      (limited-met (name_cause s.links name) (target_cause target register) (rules_cause
      s.attributes.max_link_follow_policy def_pass_on limiting) passed f h)

  -- no more changes are accepted; whether there is room for the link doesn't matter
  pub not_counted : (full : Bool) → cause ≡ None → full ≡ true →
      AcceptsChange c (unless_full full whole reply.Nothing after) s s (Err (Refused Limit))
  not_counted full none e = (rw (whole-is none, e) (by passed), refl)
    where
      by : (b : Bool) → ◌≡◌ {A = ChangeResult} (unless (limit_if b otherwise limit_if true) reply.Nothing after) (Err Limit)
      by true = refl
      by false = refl

  has_none_left : most_links ≤ length s.links → passed ≡ true
  has_none_left h = grind (arith, nat_tests)

  is_not_full : length s.links < most_links → passed ≡ false
  is_not_full h = grind (arith, nat_tests)

  -- a link is made, and there is no room for it
  pub not_added : (full : Bool) (l : LinkRecord) (new : Store) (f : Fault) → cause ≡ None →
      IsLinked {X = Unit {0}} l s new (Err f) → AcceptsChange c (unless_full full whole reply.Nothing after) s new (Err f)
  not_added full l new (Refused x) none k =
      let is : whole ≡ Some x = whole-is none ∙ (ap limit_if (has_none_left k.0) ∙ ap (λ (y : Refusal). Some y) (sym k.1)) in
      (ap (λ (w : Cause). unless_full full w reply.Nothing after) is, k.2)
  not_added full l new Memory none k = k

  -- a link is made, and added
  pub is_added : (full : Bool) (l : LinkRecord) (a : Accepted) (new : Store) → cause ≡ None → full ≡ false →
      new_links name target def_pass_on limiting register ≡ l ∷ [] → IsLinked {X = Unit {0}} l s new (Ok tt) →
      a ≡ entry c reply.Nothing → AcceptsChange c (unless_full full whole reply.Nothing after) s new (Ok a)
  is_added full l a new none e made k is =
      is_accepted c full whole reply.Nothing s after a new (whole-is none ∙ ap limit_if (is_not_full k.0)) e is
      (k.1 ∙ ap (λ (ls : List LinkRecord). record s { links = s.links ++ ls }) (sym made))
