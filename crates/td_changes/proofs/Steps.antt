-- What stands behind a change that nothing refuses: each of the operations does one of six things to the store. What
-- holds of every change is proved of these.
use Rattle.std.proofs.Common.{◌≡◌, ℕ, ◌+◌, ◌≤◌, Bool, true, false, cond, not, List, [], ◌∷◌, length, nat_lt, Option}
use Rattle.std.proofs.Common.{Some, None, Ok, Err, is_some, refl, sym, ap, subst, ◌∙◌, ltb-false}
use Rattle.std.proofs.lemmas.Bool.{eqb-true}
use Rattle.std.specs.List.{filter}
use Rattle.td_exceptions.specs.declared.exception.UserException.TheVariants as user
use Rattle.td_lang.specs.declared.expr.Constraint.{Constraint}
use Rattle.td_ops.specs.declared.attribute.FollowAttribute.{FollowAttribute}
use Rattle.td_ops.specs.declared.attribute.FollowAttribute.TheVariants as follow
use Rattle.td_ops.specs.declared.attribute.NumberAttribute.{NumberAttribute}
use Rattle.td_ops.specs.declared.attribute.NumberAttribute.TheVariants as number
use Rattle.td_ops.specs.declared.attribute.TruthAttribute.{TruthAttribute}
use Rattle.td_ops.specs.declared.attribute.TruthAttribute.TheVariants as truth
use Rattle.td_ops.specs.declared.call.Change.{Change}
use Rattle.td_ops.specs.declared.call.Change.TheVariants as change
use Rattle.td_ops.specs.declared.outcome.Reply.{Reply}
use Rattle.td_policy.specs.declared.attributes.Attributes.{Attributes}
use Rattle.td_store.specs.OfferLists.{is_numbered, offer_of, with_properties}
use Rattle.td_store.specs.declared.record.LinkRecord.{LinkRecord}
use Rattle.td_store.specs.declared.record.OfferRecord.{OfferRecord}
use Rattle.td_types.specs.Calls as types
use Rattle.td_types.specs.Repository.{Repository}
use Rattle.td_value.specs.declared.enumerations.FollowOption.{FollowOption}
use Rattle.td_value.specs.declared.structures.Property.{Property}
use Rattle.td_register.specs.Causes.{Cause, ChangeResult, OrRefusal, effect_of, with_cause, limit_if, raise_if, there}
use Rattle.td_register.specs.Causes.{unless}
use Rattle.td_register.specs.Causes.{unless_supported, ◌otherwise◌}
use Rattle.td_register.specs.Ids.{offer_of_id, number_in, offer_numbered, of_ordinary, of_proxies, ordinary, proxy}
use Rattle.td_register.specs.Named.{type_properties, type_found}
use Rattle.td_register.specs.Properties.{is_too_large}
use Rattle.td_register.specs.Registers.{asked_in, changes_cause, deletions_cause, is_met, modified_properties, no_more}
use Rattle.td_register.specs.Registers.{none_met}
use Rattle.td_register.specs.Registers.{offer_changes_cause, offers_modified, offers_not_met, offers_without, with_offer}
use Rattle.td_register.specs.Stores.{Store}
use Rattle.td_register.proofs.NoCause.{HasRoomFor, no_export_cause, no-first, no-later, no-limit, no_proxy_cause}
use Rattle.td_admin.specs.Administration.{longest_stem, set_attributes, with_follow, with_number, with_truth}
use Rattle.td_admin.specs.Repositories.{types_cause, with_types}
use Rattle.td_register.specs.declared.history.Accepted.{Accepted}
use Rattle.td_changes.specs.Applying.{acceptance, apply, apply_counted, cause_of, comes_to, comes_where, count_change}
use Rattle.td_changes.specs.Applying.{is_at_limit, with_change}
use Rattle.td_changes.specs.declared.bounds.Bounds.{Bounds}
use Rattle.td_changes.specs.Histories.{after_all}

-- the stem is the one before, or it isn't too long
abbrev pub KeepsStem : Attributes → Attributes → Type 0
KeepsStem a b = length a.request_id_stem ≤ longest_stem → length b.request_id_stem ≤ longest_stem

pub data Step (s : Store) : Store → Type 0 where
  -- an offer that takes the next number
  added : (o : OfferRecord) → o.number ≡ s.last_offer + 1 → HasRoomFor s o.reference o.properties
      → Step s (with_offer s o)
  -- the offers that pass a test
  fewer : (test : OfferRecord → Bool) → Step s (record s { offers = filter test s.offers })
  -- other properties of an offer
  renewed : (o : OfferRecord) (ps : List Property) → offer_of s.offers o.number ≡ Some o
      → is_too_large o.reference ps ≡ false
      → Step s (record s { offers = with_properties o.number ps s.offers })
  linked : (ls : List LinkRecord) → Step s (record s { links = ls })
  set : (a : Attributes) → KeepsStem s.attributes a → Step s (set_attributes s a)
  typed : (r : Repository) → Step s (record s { types = r })

-- ---- offers by their ids

-- what is found by an id is the offer of a number that the id spells
abbrev IsOf : List OfferRecord → List ℕ → OrRefusal OfferRecord → Type 0
IsOf offers id (Ok o) = (number_in id ≡ Some o.number) × (offer_of offers o.number ≡ Some o)
IsOf offers id (Err f) = Unit {0}

first-passes : (os : List OfferRecord) (n : ℕ) (o : OfferRecord) → offer_of os n ≡ Some o → o.number ≡ n
first-passes [] n o e = absurd (let bad : ⊥ = cc in bad)
first-passes (x ∷ os) n o e = by (is_numbered n x) refl (first-passes os n o) e
  where
    by : (b : Bool) → is_numbered n x ≡ b → (offer_of os n ≡ Some o → o.number ≡ n)
        → cond b (Some x) (offer_of os n) ≡ Some o → o.number ≡ n
    by true is rest e = let same : x ≡ o = cc in subst (λ (y : OfferRecord). y.number ≡ n) same (eqb-true x.number n is)
    by false is rest e = rest e

identified-of : (offers : List OfferRecord) (id : List ℕ) → IsOf offers id (offer_of_id offers id)
identified-of offers id = by_number (number_in id) refl
  where
    by_offer : (n : ℕ) → number_in id ≡ Some n → (found : Option OfferRecord) → offer_of offers n ≡ found
        → IsOf offers id (there found (user.UnknownOfferId id))
    by_offer n is None e = tt
    by_offer n is (Some o) e =
        let same = first-passes offers n o e in
        (is ∙ ap (λ (k : ℕ). Some k) (sym same), ap (offer_of offers) same ∙ e)

    by_number : (n : Option ℕ) → number_in id ≡ n → IsOf offers id (offer_numbered offers id n)
    by_number None is = tt
    by_number (Some n) is = by_offer n is (offer_of offers n) refl

of-when : (offers : List OfferRecord) (id : List ℕ) (b : Bool) (f g : OrRefusal OfferRecord) → IsOf offers id f
    → IsOf offers id g → IsOf offers id (cond b f g)
of-when offers id true f g h k = h
of-when offers id false f g h k = k

ordinary-of : (offers : List OfferRecord) (id : List ℕ) (found : OrRefusal OfferRecord) → IsOf offers id found
    → IsOf offers id (of_ordinary id found)
ordinary-of offers id (Err f) h = tt
ordinary-of offers id (Ok o) h = of-when offers id (is_some o.proxy) _ (Ok o) tt h

proxy-of : (offers : List OfferRecord) (id : List ℕ) (found : OrRefusal OfferRecord) → IsOf offers id found
    → IsOf offers id (of_proxies id found)
proxy-of offers id (Err f) h = tt
proxy-of offers id (Ok o) h = of-when offers id (is_some o.proxy) (Ok o) _ h tt

without-one : (s : Store) (id : List ℕ) (found : OrRefusal OfferRecord) → IsOf s.offers id found
    → with_cause found no_more ≡ None → Step s (record s { offers = offers_without s.offers (number_in id) })
without-one s id (Ok o) h none =
    subst (λ (n : Option ℕ). Step s (record s { offers = offers_without s.offers n })) (sym h.0)
    (fewer (λ x. not (is_numbered o.number x)))
without-one s id (Err f) h none = absurd (let bad : ⊥ = cc in bad)

with-modified : (s : Store) (id : List ℕ) (deleted : List (List ℕ)) (new : List Property) (found : OrRefusal OfferRecord)
    → IsOf s.offers id found → with_cause found (offer_changes_cause s deleted new) ≡ None
    → Step s (record s { offers = offers_modified s.offers deleted new found })
with-modified s id deleted new (Err f) h none = absurd (let bad : ⊥ = cc in bad)
with-modified s id deleted new (Ok o) h none =
    let supports = s.attributes.supports_dynamic_properties in
    let ps = modified_properties o.properties deleted new in
    let limit = limit_if (is_too_large o.reference ps) in
    let changes = changes_cause supports (type_properties s.types.types o) o deleted new in
    renewed o ps h.1
    (no-limit (is_too_large o.reference ps) (no-later changes limit
    (no-later (deletions_cause (type_properties s.types.types o) o [] deleted) (changes otherwise limit) none)))

without-met : (s : Store) (type_name text : List ℕ) (found : OrRefusal Constraint)
    → with_cause found (none_met s type_name text) ≡ None
    → Step s (record s { offers = offers_not_met s type_name found })
without-met s type_name text (Ok c) none = fewer (λ o. not (is_met s.types.types type_name c o))
without-met s type_name text (Err f) none = absurd (let bad : ⊥ = cc in bad)

-- ---- attributes and types

truth-stem : (which : TruthAttribute) (v : Bool) (a : Attributes) → KeepsStem a (with_truth which v a)
truth-stem truth.SupportsModifiableProperties v a h = h
truth-stem truth.SupportsDynamicProperties v a h = h
truth-stem truth.SupportsProxyOffers v a h = h

number-stem : (which : NumberAttribute) (v : ℕ) (a : Attributes) → KeepsStem a (with_number which v a)
number-stem number.DefSearchCard v a h = h
number-stem _ v a h = h

follow-stem : (which : FollowAttribute) (v : FollowOption) (a : Attributes) → KeepsStem a (with_follow which v a)
follow-stem follow.DefFollowPolicy v a h = h
follow-stem follow.MaxFollowPolicy v a h = h
follow-stem follow.MaxLinkFollowPolicy v a h = h

typed-by : (s : Store) (r : types.RepositoryResult) → types_cause r ≡ None → Step s (with_types s r)
typed-by s (Ok answer) none = typed answer.1
typed-by s (Err f) none = absurd (let bad : ⊥ = cc in bad)

-- ---- each change

pub step : (s : Store) (c : Change) → cause_of s c ≡ None → Step s (with_change s c)
step s (change.Export object type_name ps) none = added _ refl (no_export_cause s object type_name ps none).room
step s (change.Withdraw id) none =
    without-one s id (ordinary s.offers id) (ordinary-of s.offers id _ (identified-of s.offers id)) none
step s (change.Modify id deleted new) none =
    with-modified s id deleted new (ordinary s.offers id) (ordinary-of s.offers id _ (identified-of s.offers id))
    (no-later (raise_if (not s.attributes.supports_modifiable_properties) user.NotImplemented)
    (with_cause (ordinary s.offers id) (offer_changes_cause s deleted new)) none)
step s (change.WithdrawUsingConstraint type_name text) none =
    without-met s type_name text (asked_in text)
    (no-later (with_cause (type_found s.types.types type_name) no_more)
    (with_cause (asked_in text) (none_met s type_name text)) none)
step s (change.AddLink name target def_pass_on limiting reg) none = linked _
step s (change.RemoveLink name) none = linked _
step s (change.ModifyLink name def_pass_on limiting) none = linked _
step s (change.ExportProxy target type_name ps if_match_all recipe policies) none =
    added _ refl (no_proxy_cause s target type_name ps recipe policies none).room
step s (change.WithdrawProxy id) none =
    without-one s id (proxy s.offers id) (proxy-of s.offers id _ (identified-of s.offers id))
    (no-later (unless_supported s.attributes.supports_proxy_offers) (with_cause (proxy s.offers id) no_more) none)
step s (change.SetTruth which v) none = set _ (truth-stem which v s.attributes)
step s (change.SetNumber which v) none = set _ (number-stem which v s.attributes)
step s (change.SetFollow which v) none = set _ (follow-stem which v s.attributes)
step s (change.SetRequestIdStem v) none =
    set _ (λ h. ltb-false longest_stem (length v) (no-limit (nat_lt longest_stem (length v)) none))
step s (change.AddType name if_name props supers) none = typed-by s _ none
step s (change.RemoveType name) none = typed-by s _ none
step s (change.MaskType name) none = typed-by s _ none
step s (change.UnmaskType name) none = typed-by s _ none

-- ---- what a change comes to

-- accepted: no cause, the reply, and the store with the change
pub record IsAccepted (s : Store) (c : Change) (content : Reply) (t : Store) : Type 0 where
  pub none : cause_of s c ≡ None
  pub reply : acceptance s c ≡ content
  pub step : Step s t

abbrev content_in : Reply → ChangeResult → Reply
content_in r (Ok a) = a.0
content_in r (Err f) = r

abbrev store_in : Store → ChangeResult → Store
store_in s (Ok a) = a.1
store_in s (Err f) = s

by_cause : (s : Store) (c : Change) (cause : Cause) (content : Reply) (t : Store) → (cause ≡ None → cause_of s c ≡ None)
    → unless cause (acceptance s c) (with_change s c) ≡ Ok (content, t) → IsAccepted s c content t
by_cause s c None content t none h = record {
  none = none refl;
  reply = ap (content_in content) h;
  step = subst (λ (x : Store). Step s x) (ap (store_in t) h) (step s c (none refl));
}
by_cause s c (Some f) content t none h = absurd (let bad : ⊥ = cc in bad)

pub accepted : (s : Store) (c : Change) (content : Reply) (t : Store) → comes_to s c ≡ Ok (content, t)
    → IsAccepted s c content t
unfolding comes_to
accepted s c content t h = by_cause s c (cause_of s c) content t (λ e. e) h

-- the same below the limit of changes
pub accepted_full : (full : Bool) (s : Store) (c : Change) (content : Reply) (t : Store)
    → comes_where full s c ≡ Ok (content, t) → IsAccepted s c content t
accepted_full full s c content t h =
    by_cause s c (cause_of s c otherwise limit_if full) content t (no-first (cause_of s c) (limit_if full)) h

pub accepted_counted : (bounds : Bounds) (count : ℕ) (s : Store) (c : Change) (content : Reply) (t : Store)
    → count_change bounds count s c ≡ Ok (content, t) → IsAccepted s c content t
unfolding count_change
accepted_counted bounds count s c content t h = accepted_full (is_at_limit bounds count) s c content t h

-- ---- what each step keeps is kept by every change and every history

abbrev pub Keeps : (Store → Type 0) → Type 0
Keeps P = (s t : Store) → Step s t → P s → P t

module _ (P : Store → Type 0) (keeps : Keeps P) where
  came : (s : Store) (c : Change) (r : ChangeResult) → ((content : Reply) (t : Store) → r ≡ Ok (content, t) → IsAccepted s c content t)
      → P s → P (effect_of s r).store
  came s c (Ok a) is h = keeps s a.1 (is a.0 a.1 refl).step h
  came s c (Err f) is h = h

  pub applied_keeps : (s : Store) (c : Change) → P s → P (apply s c).store
  applied_keeps s c h = came s c (comes_to s c) (accepted s c) h

  pub counted_keeps : (bounds : Bounds) (count : ℕ) (s : Store) (c : Change) → P s → P (apply_counted bounds count s c).store
  counted_keeps bounds count s c h = came s c (count_change bounds count s c) (accepted_counted bounds count s c) h

  pub history_keeps : (s : Store) (history : List Accepted) → P s → P (after_all s history)
  unfolding after_all
  history_keeps s [] h = h
  history_keeps s (e ∷ es) h = history_keeps (apply s e.change).store es (applied_keeps s e.change h)
