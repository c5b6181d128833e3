-- Attributes: what their changes come to can be written.
use Rattle.std.proofs.Common.{◌≡◌, ℕ, Bool, List, [], ◌∷◌, length, nat_lt, refl, subst, sym}
use Rattle.std.specs.List.{AllByRecursion}
use Rattle.td_typecode.specs.declared.reference.Ior.{Ior}
use Rattle.td_cdr.specs.Sound.{ulong}
use Rattle.td_typecode.specs.References.{reference}
use Rattle.td_ops.specs.declared.attribute.FollowAttribute.{FollowAttribute}
use Rattle.td_ops.specs.declared.attribute.FollowAttribute.TheVariants as follow
use Rattle.td_ops.specs.declared.attribute.NumberAttribute.{NumberAttribute}
use Rattle.td_ops.specs.declared.attribute.NumberAttribute.TheVariants as number
use Rattle.td_ops.specs.declared.attribute.ReferenceAttribute.{ReferenceAttribute}
use Rattle.td_ops.specs.declared.attribute.ReferenceAttribute.TheVariants as reference_attribute
use Rattle.td_ops.specs.declared.attribute.TruthAttribute.{TruthAttribute}
use Rattle.td_ops.specs.declared.attribute.TruthAttribute.TheVariants as truth
use Rattle.td_ops.specs.declared.call.Change.TheVariants as change
use Rattle.td_ops.specs.declared.operation.Operation.TheVariants.{SetFollow, SetNumber, SetRequestIdStem, SetTruth}
use Rattle.td_ops.specs.declared.outcome.Reply.TheVariants as reply
use Rattle.td_policy.specs.declared.attributes.Attributes.{Attributes}
use Rattle.td_store.specs.Stores.{AdmitsAttributes}
use Rattle.td_value.specs.declared.enumerations.FollowOption.{FollowOption}
use Rattle.td_register.specs.Stores.{Store}
use Rattle.td_admin.specs.Administration.{follow_of, longest_stem, number_of, reference_of, set_attributes, stem_cause}
use Rattle.td_admin.specs.Administration.{truth_of, with_follow, with_number, with_stem, with_truth}
use Rattle.td_changes.specs.Applying.{comes_to}
use Rattle.td_trader_laws.specs.Writable.{AreUlongs, IsWritableStore}
use Rattle.td_trader_laws.proofs.Admitting.{AdmitsComes, came, limited}
use Rattle.td_trader.proofs.ReadAdmitted.{follow-admitted}

-- ---- attributes by their names

pub number-admitted : (which : NumberAttribute) (a : Attributes) → AreUlongs a
    → ulong.format.admits (number_of which a)
number-admitted number.DefSearchCard a h = h.def_search_card
number-admitted number.MaxSearchCard a h = h.max_search_card
number-admitted number.DefMatchCard a h = h.def_match_card
number-admitted number.MaxMatchCard a h = h.max_match_card
number-admitted number.DefReturnCard a h = h.def_return_card
number-admitted number.MaxReturnCard a h = h.max_return_card
number-admitted number.MaxList a h = h.max_list
number-admitted number.DefHopCount a h = h.def_hop_count
number-admitted number.MaxHopCount a h = h.max_hop_count

pub reference-admitted : (which : ReferenceAttribute) (a : Attributes) → AdmitsAttributes a
    → reference.format.admits (reference_of which a)
reference-admitted reference_attribute.LookupIf a h = h.lookup_if
reference-admitted reference_attribute.RegisterIf a h = h.register_if
reference-admitted reference_attribute.LinkIf a h = h.link_if
reference-admitted reference_attribute.ProxyIf a h = h.proxy_if
reference-admitted reference_attribute.AdminIf a h = h.admin_if
reference-admitted reference_attribute.TypeRepos a h = h.type_repos

-- ---- attributes with another value

abbrev references : Attributes → List Ior
references a = a.lookup_if ∷ a.register_if ∷ a.link_if ∷ a.proxy_if ∷ a.admin_if ∷ a.type_repos ∷ []

abbrev numbers : Attributes → List ℕ
numbers a =
    a.def_search_card ∷ a.max_search_card ∷ a.def_match_card ∷ a.max_match_card ∷ a.def_return_card
    ∷ a.max_return_card ∷ a.max_list ∷ a.def_hop_count ∷ a.max_hop_count ∷ []

abbrev AreAdmitted : List ℕ → Type 0
AreAdmitted ns = AllByRecursion ulong.format.admits ns

same-references : (a b : Attributes) → references b ≡ references a → AdmitsAttributes a → AdmitsAttributes b
same-references a b e h =
    let all =
    subst (AllByRecursion reference.format.admits) (sym e)
    (h.lookup_if, (h.register_if, (h.link_if, (h.proxy_if, (h.admin_if, (h.type_repos, tt)))))) in
    record {
      lookup_if = all.0;
      register_if = all.1.0;
      link_if = all.1.1.0;
      proxy_if = all.1.1.1.0;
      admin_if = all.1.1.1.1.0;
      type_repos = all.1.1.1.1.1.0;
    }

ulongs : (a : Attributes) → AreUlongs a → AreAdmitted (numbers a)
ulongs a h = (
  h.def_search_card,
  (
    h.max_search_card,
    (
      h.def_match_card,
      (
        h.max_match_card,
        (h.def_return_card, (h.max_return_card, (h.max_list, (h.def_hop_count, (h.max_hop_count, tt))))),
      ),
    ),
  ),
)

are-ulongs : (a : Attributes) → AreAdmitted (numbers a) → AreUlongs a
are-ulongs a h = record {
  def_search_card = h.0;
  max_search_card = h.1.0;
  def_match_card = h.1.1.0;
  max_match_card = h.1.1.1.0;
  def_return_card = h.1.1.1.1.0;
  max_return_card = h.1.1.1.1.1.0;
  max_list = h.1.1.1.1.1.1.0;
  def_hop_count = h.1.1.1.1.1.1.1.0;
  max_hop_count = h.1.1.1.1.1.1.1.1.0;
}

same-numbers : (a b : Attributes) → numbers b ≡ numbers a → AreUlongs a → AreUlongs b
same-numbers a b e h = are-ulongs b (subst AreAdmitted (sym e) (ulongs a h))

truth-apart : (which : TruthAttribute) (value : Bool) (a : Attributes)
    → (references (with_truth which value a) ≡ references a) × (numbers (with_truth which value a) ≡ numbers a)
truth-apart truth.SupportsModifiableProperties value a = (refl, refl)
truth-apart _ value a = (refl, refl)

follow-apart : (which : FollowAttribute) (value : FollowOption) (a : Attributes)
    → (references (with_follow which value a) ≡ references a) × (numbers (with_follow which value a) ≡ numbers a)
follow-apart follow.DefFollowPolicy value a = (refl, refl)
follow-apart _ value a = (refl, refl)

number-apart : (which : NumberAttribute) (value : ℕ) (a : Attributes)
    → references (with_number which value a) ≡ references a
number-apart number.DefSearchCard value a = refl
number-apart _ value a = refl

number-set : (which : NumberAttribute) (value : ℕ) (a : Attributes) → ulong.format.admits value
    → AreAdmitted (numbers a) → AreAdmitted (numbers (with_number which value a))
number-set number.DefSearchCard value a v h = (v, h.1)
number-set number.MaxSearchCard value a v h = (h.0, (v, h.1.1))
number-set number.DefMatchCard value a v h = (h.0, (h.1.0, (v, h.1.1.1)))
number-set number.MaxMatchCard value a v h = (h.0, (h.1.0, (h.1.1.0, (v, h.1.1.1.1))))
number-set number.DefReturnCard value a v h = (h.0, (h.1.0, (h.1.1.0, (h.1.1.1.0, (v, h.1.1.1.1.1)))))
number-set number.MaxReturnCard value a v h =
    (h.0, (h.1.0, (h.1.1.0, (h.1.1.1.0, (h.1.1.1.1.0, (v, h.1.1.1.1.1.1))))))
number-set number.MaxList value a v h =
    (h.0, (h.1.0, (h.1.1.0, (h.1.1.1.0, (h.1.1.1.1.0, (h.1.1.1.1.1.0, (v, h.1.1.1.1.1.1.1)))))))
number-set number.DefHopCount value a v h = (
  h.0,
  (h.1.0, (h.1.1.0, (h.1.1.1.0, (h.1.1.1.1.0, (h.1.1.1.1.1.0, (h.1.1.1.1.1.1.0, (v, h.1.1.1.1.1.1.1.1))))))),
)
number-set number.MaxHopCount value a v h = (
  h.0,
  (
    h.1.0,
    (
      h.1.1.0,
      (h.1.1.1.0, (h.1.1.1.1.0, (h.1.1.1.1.1.0, (h.1.1.1.1.1.1.0, (h.1.1.1.1.1.1.1.0, (v, tt)))))),
    ),
  ),
)

with-attributes : (s : Store) (a : Attributes) → IsWritableStore s → AdmitsAttributes a → AreUlongs a
    → IsWritableStore (set_attributes s a)
with-attributes s a w h n =
    let valid = w.store in
    record {
      store = record {
        types = valid.types;
        types_writable = valid.types_writable;
        offers = valid.offers;
        offers_rise = valid.offers_rise;
        offers_counted = valid.offers_counted;
        few_offers = valid.few_offers;
        links = valid.links;
        links_named = valid.links_named;
        few_links = valid.few_links;
        attributes = h;
      };
      numbers = n;
      last_offer = w.last_offer;
      incarnation = w.incarnation;
    }

-- ---- changes

pub sets-truth : (s : Store) (which : TruthAttribute) (value : Bool) → IsWritableStore s
    → AdmitsComes (SetTruth which) (comes_to s (change.SetTruth which value))
unfolding comes_to
sets-truth s which value w =
    let a = s.attributes in
    let apart = truth-apart which value a in (
      (refl, (truth_of which a, refl, tt)),
      with-attributes s (with_truth which value a) w
          (same-references a (with_truth which value a) apart.0 w.store.attributes)
          (same-numbers a (with_truth which value a) apart.1 w.numbers),
    )

pub sets-number : (s : Store) (which : NumberAttribute) (value : ℕ) → IsWritableStore s → ulong.format.admits value
    → AdmitsComes (SetNumber which) (comes_to s (change.SetNumber which value))
unfolding comes_to
sets-number s which value w v =
    let a = s.attributes in (
      (refl, (number_of which a, refl, number-admitted which a w.numbers)),
      with-attributes s (with_number which value a) w
          (same-references a (with_number which value a) (number-apart which value a) w.store.attributes)
          (are-ulongs (with_number which value a) (number-set which value a v (ulongs a w.numbers))),
    )

pub sets-follow : (s : Store) (which : FollowAttribute) (value : FollowOption) → IsWritableStore s
    → AdmitsComes (SetFollow which) (comes_to s (change.SetFollow which value))
unfolding comes_to
sets-follow s which value w =
    let a = s.attributes in
    let old = follow_of which a in
    let apart = follow-apart which value a in (
      (refl, (old, refl, follow-admitted old)),
      with-attributes s (with_follow which value a) w
          (same-references a (with_follow which value a) apart.0 w.store.attributes)
          (same-numbers a (with_follow which value a) apart.1 w.numbers),
    )

pub sets-stem : (s : Store) (value : List ℕ) → IsWritableStore s
    → AdmitsComes SetRequestIdStem (comes_to s (change.SetRequestIdStem value))
unfolding comes_to
sets-stem s value w =
    let a = s.attributes in
    came SetRequestIdStem (stem_cause value) (reply.Stem a.request_id_stem) (set_attributes s (with_stem value a))
    (limited (nat_lt longest_stem (length value))) (refl, (a.request_id_stem, refl, tt))
    (λ none. with-attributes s (with_stem value a) w
    (same-references a (with_stem value a) refl w.store.attributes)
    (same-numbers a (with_stem value a) refl w.numbers))
