-- Links: what their changes come to can be written.
use Rattle.std.proofs.Common.{◌≡◌, ℕ, ◌<◌, true, false, not, List, [], ◌∷◌, ◌++◌, length, map, Option, Some}
use Rattle.std.proofs.Common.{None, is_some, nat_le, refl}
use Rattle.std.proofs.lemmas.Bool.{leb-false}
use Rattle.td_cdr.specs.Names.{word_name}
use Rattle.td_cdr.specs.Sound.{text}
use Rattle.td_typecode.specs.References.{reference}
use Rattle.td_typecode.specs.declared.reference.Ior.{Ior}
use Rattle.td_exceptions.specs.declared.exception.UserException.TheVariants as user
use Rattle.td_ior.specs.Profiles.{iiop_of}
use Rattle.td_ops.specs.declared.call.Change.TheVariants as change
use Rattle.td_ops.specs.declared.operation.LinkOperation.TheVariants as link
use Rattle.td_ops.specs.declared.operation.Operation.TheVariants.{Link}
use Rattle.td_ops.specs.declared.outcome.Reply.TheVariants as reply
use Rattle.td_store.specs.LinkLists.{is_linked, link_of, most_links, with_follow_rules, without_link}
use Rattle.td_store.specs.Stores.{AdmitsLink, IsStore}
use Rattle.td_store.specs.declared.record.LinkRecord.{LinkRecord}
use Rattle.td_store.proofs.Limits.{with-link, with-rules, without-link}
use Rattle.td_types.proofs.Sequences.{each-found}
use Rattle.td_value.specs.declared.enumerations.FollowOption.{FollowOption}
use Rattle.td_register.specs.Causes.{limit_if, raise, raise_if, there, ◌otherwise◌}
use Rattle.td_register.specs.Stores.{Store}
use Rattle.td_changes.specs.Applying.{comes_to}
use Rattle.td_admin.specs.Links.{add_link_cause, link_named, modify_link_cause, name_cause}
use Rattle.td_admin.specs.Links.{new_links, permits_more, remove_link_cause, rules_cause, target_cause}
use Rattle.td_trader_laws.specs.Writable.{IsWritableStore}
use Rattle.td_trader.specs.Admitted.{AdmitsChange}
use Rattle.td_trader_laws.proofs.Admitting.{AdmitsCause, AdmitsComes, AdmitsFound, came, found-when}
use Rattle.td_trader.proofs.ReadAdmitted.{follow-admitted}
use Rattle.td_register.proofs.NoCause.{no-first, no-later, no-limit, not-raised}
use Rattle.td_trader_laws.proofs.Admitting.{given-admitted, limited, or-else}
use Rattle.td_trader_laws.proofs.Admitting.{raised, there-admitted}

links-stay : (s : Store) (ls : List LinkRecord) → IsWritableStore s → IsStore (record s { links = ls })
    → IsWritableStore (record s { links = ls })
links-stay s ls w v = record {
  store = v;
  numbers = w.numbers;
  last_offer = w.last_offer;
  incarnation = w.incarnation;
}

rules-cause : (maximum def_pass_on limiting : FollowOption) → AdmitsCause (rules_cause maximum def_pass_on limiting)
rules-cause maximum def_pass_on limiting =
    or-else
    (raise_if (permits_more def_pass_on limiting) (user.DefaultFollowTooPermissive def_pass_on limiting))
    (raise_if (permits_more limiting maximum) (user.LimitingFollowTooPermissive limiting maximum))
    (raised (permits_more def_pass_on limiting) (user.DefaultFollowTooPermissive def_pass_on limiting)
    ((def_pass_on, limiting), refl, (follow-admitted def_pass_on, follow-admitted limiting)))
    (raised (permits_more limiting maximum) (user.LimitingFollowTooPermissive limiting maximum)
    ((limiting, maximum), refl, (follow-admitted limiting, follow-admitted maximum)))

pub linked-held : (s : Store) (name : List ℕ) → IsStore s → text.format.admits name
    → AdmitsFound AdmitsLink (link_named s.links name)
linked-held s name valid n =
    found-when AdmitsLink (word_name name) (there (link_of s.links name) (user.UnknownLinkName name))
    (raise (user.IllegalLinkName name))
    (there-admitted AdmitsLink (link_of s.links name) (user.UnknownLinkName name) (name, refl, n)
    (λ l e. each-found AdmitsLink (is_linked name) s.links l valid.links e))
    (name, refl, n)

-- ---- a new link

name-cause : (links : List LinkRecord) (name : List ℕ) → text.format.admits name → AdmitsCause (name_cause links name)
name-cause links name n =
    or-else (raise_if (not (word_name name)) (user.IllegalLinkName name))
    (raise_if (is_some (link_of links name)) (user.DuplicateLinkName name))
    (raised (not (word_name name)) (user.IllegalLinkName name) (name, refl, n))
    (raised (is_some (link_of links name)) (user.DuplicateLinkName name) (name, refl, n))

target-cause : (target : Ior) (register : Option Ior) → reference.format.admits target
    → AdmitsCause (target_cause target register)
target-cause target None h = raised true (user.InvalidLookupRef target) (target, refl, h)
target-cause target (Some register) h =
    raised (not (is_some (iiop_of target))) (user.InvalidLookupRef target) (target, refl, h)

none-there : (o : Option LinkRecord) → is_some o ≡ false → o ≡ None
none-there None h = refl
none-there (Some l) h = absurd (let bad : ⊥ = cc in bad)

fresh-name : (links : List LinkRecord) (name : List ℕ) → name_cause links name ≡ None → link_of links name ≡ None
fresh-name links name h =
    none-there (link_of links name)
    (not-raised (is_some (link_of links name)) (user.DuplicateLinkName name)
    (no-later (raise_if (not (word_name name)) (user.IllegalLinkName name))
    (raise_if (is_some (link_of links name)) (user.DuplicateLinkName name)) h))

module _ (s : Store) (name : List ℕ) (target : Ior) (def_pass_on limiting : FollowOption) (w : IsWritableStore s) where
  linked-new : (register : Option Ior) → AdmitsChange (change.AddLink name target def_pass_on limiting register)
      → target_cause target register ≡ None → link_of s.links name ≡ None → length s.links < most_links
      → IsWritableStore (record s { links = s.links ++ new_links name target def_pass_on limiting register })
  linked-new None h reached fresh few = absurd (let bad : ⊥ = cc in bad)
  linked-new (Some register) h reached fresh few =
      let l : LinkRecord = record {
        name = name;
        target = target;
        register = register;
        def_pass_on = def_pass_on;
        limiting = limiting;
      } in
      let admitted : AdmitsLink l = record {
        name = h.0.0;
        info = (h.0.1.0, (h.1, (h.0.1.1.0, h.0.1.1.1)));
      } in
      links-stay s (s.links ++ l ∷ []) w (with-link s l w.store admitted fresh few)

  pub adds : (register : Option Ior) → AdmitsChange (change.AddLink name target def_pass_on limiting register)
      → AdmitsComes (Link link.AddLink) (comes_to s (change.AddLink name target def_pass_on limiting register))
  unfolding comes_to
  adds register h =
      let named = name_cause s.links name in
      let reached = target_cause target register in
      let rules = rules_cause s.attributes.max_link_follow_policy def_pass_on limiting in
      let limit = limit_if (nat_le most_links (length s.links)) in
      came (Link link.AddLink) (add_link_cause s name target def_pass_on limiting register) reply.Nothing
      (record s { links = s.links ++ new_links name target def_pass_on limiting register })
      (or-else named (reached otherwise rules otherwise limit) (name-cause s.links name h.0.0)
      (or-else reached (rules otherwise limit) (target-cause target register h.0.1.0)
      (or-else rules limit (rules-cause s.attributes.max_link_follow_policy def_pass_on limiting)
      (limited (nat_le most_links (length s.links))))))
      (refl, refl)
      (λ none.
      let behind = no-later named (reached otherwise rules otherwise limit) none in
      linked-new register h (no-first reached (rules otherwise limit) behind)
      (fresh-name s.links name (no-first named (reached otherwise rules otherwise limit) none))
      (leb-false most_links (length s.links)
      (no-limit (nat_le most_links (length s.links))
      (no-later rules limit (no-later reached (rules otherwise limit) behind)))))

-- ---- a link by its name

pub removes : (s : Store) (name : List ℕ) → IsWritableStore s → text.format.admits name
    → AdmitsComes (Link link.RemoveLink) (comes_to s (change.RemoveLink name))
unfolding comes_to
removes s name w n =
    came (Link link.RemoveLink) (remove_link_cause s name) reply.Nothing
    (record s { links = without_link name s.links })
    (given-admitted AdmitsLink (link_named s.links name) (λ l. None) (linked-held s name w.store n) (λ l h. tt))
    (refl, refl)
    (λ none. links-stay s (without_link name s.links) w (without-link s name w.store))

pub rules : (s : Store) (name : List ℕ) (def_pass_on limiting : FollowOption) → IsWritableStore s
    → text.format.admits name
    → AdmitsComes (Link link.ModifyLink) (comes_to s (change.ModifyLink name def_pass_on limiting))
unfolding comes_to
rules s name def_pass_on limiting w n =
    let maximum = s.attributes.max_link_follow_policy in
    came (Link link.ModifyLink) (modify_link_cause s name def_pass_on limiting) reply.Nothing
    (record s { links = map (with_follow_rules name def_pass_on limiting) s.links })
    (given-admitted AdmitsLink (link_named s.links name) (λ l. rules_cause maximum def_pass_on limiting)
    (linked-held s name w.store n) (λ l h. rules-cause maximum def_pass_on limiting))
    (refl, refl)
    (λ none. links-stay s (map (with_follow_rules name def_pass_on limiting) s.links) w
    (with-rules s name def_pass_on limiting w.store))
