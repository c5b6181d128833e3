-- Every change keeps the offers of a store within their limits.
use Rattle.std.proofs.Common.{◌≡◌, ℕ, ◌+◌, ◌<◌, Bool, true, false, cond, List, [], ◌∷◌, ◌++◌, take, Option, Some}
use Rattle.std.proofs.Common.{refl, sym, ap, ◌∙◌, subst, arith}
use Rattle.std.proofs.lemmas.Bool.{eqb-true}
use Rattle.std.specs.List.{AllByRecursion}
use Rattle.std.specs.List.Sorted.{IsStrictlySortedBy}
use Rattle.td_ops.specs.declared.call.Change.{Change}
use Rattle.td_store.proofs.Limits.{all-filter, rise-changed, rise-filter, rise-push}
use Rattle.td_store.proofs.Ordering.{found-each}
use Rattle.td_store.specs.OfferLists.{NumbersRise, is_numbered, offer_of, with_properties}
use Rattle.td_store.specs.declared.record.OfferRecord.{OfferRecord}
use Rattle.td_value.specs.declared.structures.Property.{Property}
use Rattle.td_register.proofs.NoCause.{small}
use Rattle.td_register.specs.Properties.{is_too_large}
use Rattle.td_register.specs.Stores.{Store}
use Rattle.td_register.specs.declared.history.Accepted.{Accepted}
use Rattle.td_changes.proofs.Numbered.{numbered}
use Rattle.td_changes.proofs.Steps.{Keeps, accepted, added, applied_keeps, fewer, history_keeps, linked, renewed, set}
use Rattle.td_changes.proofs.Steps.{typed}
use Rattle.td_changes.specs.Applying.{apply}
use Rattle.td_changes.specs.Histories.{after_all}
use Rattle.td_changes.specs.Numbering.{IsNumbered}
use Rattle.td_trader.specs.OfferLimits.{ChangesKeepLimits, HasLimitedOffers, HistoriesKeepLimits, IsWithinLimits}

-- ---- one offer more

weaker : {X : Type 0} (P Q : X → Type 0) (xs : List X) → ((x : X) → P x → Q x) → AllByRecursion P xs
    → AllByRecursion Q xs
weaker P Q [] f h = tt
weaker P Q (x ∷ xs) f h = (f x h.0, weaker P Q xs f h.1)

push-all : {X : Type 0} (P : X → Type 0) (xs : List X) (x : X) → AllByRecursion P xs → P x
    → AllByRecursion P (xs ++ x ∷ [])
push-all P [] x h k = (k, tt)
push-all P (y ∷ xs) x h k = (h.0, push-all P xs x h.1 k)

-- ---- other properties of an offer

changed-when : (P : OfferRecord → Type 0) (b : Bool) (o : OfferRecord) (ps : List Property) → P o
    → (b ≡ true → P (record o { properties = ps })) → P (cond b (record o { properties = ps }) o)
changed-when P true o ps h k = k refl
changed-when P false o ps h k = h

all-changed : (P : OfferRecord → Type 0) (n : ℕ) (ps : List Property) (whole os : List OfferRecord)
    → ((o : OfferRecord) → offer_of whole n ≡ Some o → P (record o { properties = ps }))
    → AllByRecursion (λ o. offer_of whole o.number ≡ Some o) os → AllByRecursion P os
    → AllByRecursion P (with_properties n ps os)
all-changed P n ps whole [] good found h = tt
all-changed P n ps whole (o ∷ os) good found h = (
  changed-when P (is_numbered n o) o ps h.0
      (λ y. good o (ap (offer_of whole) (sym (eqb-true o.number n y)) ∙ found.0)),
  all-changed P n ps whole os good found.1 h.1,
)

some-same : (a b : OfferRecord) → ◌≡◌ {A = Option OfferRecord} (Some a) (Some b) → a ≡ b
some-same a b h = cc

changed : (s : Store) (o : OfferRecord) (ps : List Property) → HasLimitedOffers s
    → offer_of s.offers o.number ≡ Some o → is_too_large o.reference ps ≡ false
    → AllByRecursion IsWithinLimits (with_properties o.number ps s.offers)
changed s o ps h held fits =
    let k = small o.reference ps fits in
    let new : IsWithinLimits (record o { properties = ps }) = record { properties = k.0; bytes = k.1 } in
    all-changed IsWithinLimits o.number ps s.offers s.offers
    (λ x e. subst (λ (y : OfferRecord). IsWithinLimits (record y { properties = ps }))
    (some-same o x (sym held ∙ e)) new)
    (found-each s.offers h.rise) h.within

-- ---- each step

keeps : Keeps HasLimitedOffers
keeps s _ (added o is room) h = record {
  within =
      let k = small o.reference o.properties room.fits in
      push-all IsWithinLimits s.offers o h.within (record { properties = k.0; bytes = k.1 });
  rise = rise-push s.offers o h.rise
      (weaker (IsNumbered s.last_offer) (λ x. x.number < o.number) s.offers
      (λ x given. let below = given.1 in omega (arith, below, is)) h.numbered);
  numbered = numbered s _ (added o is room) h.numbered;
}
keeps s _ (fewer test) h = record {
  within = all-filter IsWithinLimits test s.offers h.within;
  rise = rise-filter test s.offers h.rise;
  numbered = numbered s _ (fewer test) h.numbered;
}
keeps s _ (renewed o ps held fits) h = record {
  within = changed s o ps h held fits;
  rise = rise-changed o.number ps s.offers h.rise;
  numbered = numbered s _ (renewed o ps held fits) h.numbered;
}
keeps s _ (linked ls) h = record { within = h.within; rise = h.rise; numbered = h.numbered }
keeps s _ (set a stem) h = record { within = h.within; rise = h.rise; numbered = h.numbered }
keeps s _ (typed r) h = record { within = h.within; rise = h.rise; numbered = h.numbered }

pub changes_keep : ChangesKeepLimits
changes_keep s after c content h e = keeps s after (accepted s c content after e).step h

pub limited_behind : (s : Store) (entries : List Accepted) → HasLimitedOffers s
    → HasLimitedOffers (after_all s entries)
limited_behind s entries h = history_keeps HasLimitedOffers keeps s entries h

pub histories_keep : HistoriesKeepLimits
histories_keep opening history point h = limited_behind opening (take point history) h

-- ---- a change of a store that isn't counted

pub limited_applied : (s t : Store) (c : Change) → t ≡ (apply s c).store → HasLimitedOffers s → HasLimitedOffers t
limited_applied s t c e h = subst HasLimitedOffers (sym e) (applied_keeps HasLimitedOffers keeps s c h)

pub limited_same : (s t : Store) → t ≡ s → HasLimitedOffers s → HasLimitedOffers t
limited_same s t e h = subst HasLimitedOffers (sym e) h

-- ---- where there are none

pub no_offers : (s : Store) → s.offers ≡ [] → HasLimitedOffers s
unfolding IsStrictlySortedBy
no_offers s e = record {
  within = subst (AllByRecursion IsWithinLimits) (sym e) tt;
  rise = subst NumbersRise (sym e) tt;
  numbered = subst (AllByRecursion (IsNumbered s.last_offer)) (sym e) tt;
}
