-- The two links of a generated trader are added.
use Rattle.std.proofs.Common.{◌≡◌, ℕ, ◌+◌, ◌≤◌, ◌<◌, ◌^◌, nat_le, not, is_some, List, [], ◌∷◌}
use Rattle.std.proofs.Common.{◌++◌, codes, length, Option, Some, None, refl, ap, arith, length-append}
use Rattle.std.proofs.lemmas.Bool.{lt-leb}
use Rattle.td_admin.specs.Links.{add_link_cause, name_cause, rules_cause, target_cause}
use Rattle.td_changes.specs.Applying.{comes_to}
use Rattle.td_typecode.specs.declared.reference.Ior.{Ior}
use Rattle.td_exceptions.specs.declared.exception.UserException.TheVariants.{InvalidLookupRef}
use Rattle.td_file.specs.Openings.{link_to}
use Rattle.td_ior.proofs.Profiles.{made-found}
use Rattle.td_ior.specs.Keys.{written_key}
use Rattle.td_ior.specs.Profiles.{iiop_of, made_octets}
use Rattle.td_ior.specs.declared.profile.Iiop.{Iiop}
use Rattle.td_make_file_laws.proofs.AtMost.{counted-short, made-short}
use Rattle.td_make_file_laws.proofs.Going.{Becomes, Goes, local_address}
use Rattle.td_make_laws.specs.Said.{link_entry, name_of}
use Rattle.td_objects.specs.References.{lookup_reference, register_reference}
use Rattle.td_ops.specs.declared.outcome.Reply.TheVariants as content
use Rattle.td_register.proofs.Otherwise.{neither}
use Rattle.td_register.specs.Causes.{Cause, limit_if, raise_if, unless, ◌otherwise◌}
use Rattle.td_register.specs.Stores.{Store}
use Rattle.td_store.specs.declared.record.LinkRecord.{LinkRecord}
use Rattle.td_value.specs.declared.enumerations.FollowOption.{FollowOption}
use Rattle.td_value.specs.declared.enumerations.FollowOption.TheVariants.{Always}
use Rattle.td_value.specs.declared.key.Kind.TheVariants as kind

-- the key of a trader's Lookup
abbrev lookup_key : (trader : ℕ) → List ℕ
lookup_key trader = written_key (record { trader = name_of trader; kind = kind.Lookup })

-- it can be reached
lookup-found : (trader : ℕ) → trader ≤ 64
    → iiop_of (lookup_reference local_address (name_of trader))
    ≡ Some (record { host = codes "127.0.0.1"; port = 2809; key = lookup_key trader; minor = 0; components = [] })
lookup-found trader most =
    let octets : List ℕ = lookup_key trader in
    let named = counted-short (codes "T") trader most in
    let whole = length-append (name_of trader) (codes "/L") in
    let made = made-short (codes "127.0.0.1") octets 2809 in
    let short : length (made_octets (codes "127.0.0.1") 2809 octets 0) < 2 ^ 32 = omega (arith, named, whole, made) in
    made-found (codes "IDL:omg.org/CosTrading/Lookup:1.0") (codes "127.0.0.1") octets 2809 0 refl (omega arith)
    (omega arith) short

abbrev pub record_of : (name : List ℕ) → (trader : ℕ) → LinkRecord
record_of name trader = record {
  name = name;
  target = lookup_reference local_address (name_of trader);
  register = register_reference local_address (name_of trader);
  def_pass_on = Always;
  limiting = Always;
}

module _ (s : Store) (name : List ℕ) (trader : ℕ) (most : trader ≤ 64) (free : name_cause s.links name ≡ None)
    (follows : s.attributes.max_link_follow_policy ≡ Always) (few : length s.links ≤ 64) where
  abbrev target : Ior
  target = lookup_reference local_address (name_of trader)

  abbrev register : Ior
  register = register_reference local_address (name_of trader)

  reached : target_cause target (Some register) ≡ None
  reached =
      ap (λ (o : Option Iiop). raise_if (not (is_some o)) (InvalidLookupRef target)) (lookup-found trader most)

  ruled : rules_cause s.attributes.max_link_follow_policy Always Always ≡ None
  ruled = ap (λ (f : FollowOption). rules_cause f Always Always) follows

  within : limit_if (nat_le 1024 (length s.links)) ≡ None
  within = ap limit_if (lt-leb 1024 (length s.links) (omega (arith, few)))

  none : add_link_cause s name target Always Always (Some register) ≡ None
  none =
      neither (name_cause s.links name)
      (target_cause target (Some register)
      otherwise rules_cause s.attributes.max_link_follow_policy Always Always
      otherwise limit_if (nat_le 1024 (length s.links)))
      free
      (neither (target_cause target (Some register))
      (rules_cause s.attributes.max_link_follow_policy Always Always
      otherwise limit_if (nat_le 1024 (length s.links)))
      reached
      (neither (rules_cause s.attributes.max_link_follow_policy Always Always)
      (limit_if (nat_le 1024 (length s.links))) ruled within))

  pub link-added : Becomes s (link_to local_address name (name_of trader) Always Always)
      (record s { links = s.links ++ record_of name trader ∷ [] })
  unfolding comes_to
  link-added = record {
    reply = content.Nothing;
    is =
        ap (λ (c : Cause). unless c content.Nothing (record s { links = s.links ++ record_of name trader ∷ [] })) none;
  }

-- both links of a trader that has none
pub both-added : (s : Store) (next chord : ℕ) → next ≤ 64 → chord ≤ 64 → s.links ≡ []
    → s.attributes.max_link_follow_policy ≡ Always
    → Goes local_address s (link_entry (codes "next") next ∷ link_entry (codes "chord") chord ∷ [])
    (record s { links = (s.links ++ record_of (codes "next") next ∷ []) ++ record_of (codes "chord") chord ∷ [] })
both-added s next chord n c none follows =
    let once : Store = record s { links = s.links ++ record_of (codes "next") next ∷ [] } in
    let free : name_cause s.links (codes "next") ≡ None =
    ap (λ (ls : List LinkRecord). name_cause ls (codes "next")) none in
    let empty : length s.links ≡ 0 = ap (λ (ls : List LinkRecord). length ls) none in
    let few : length s.links ≤ 64 = omega (arith, empty) in
    let then_free : name_cause once.links (codes "chord") ≡ None =
    ap (λ (ls : List LinkRecord). name_cause (ls ++ record_of (codes "next") next ∷ []) (codes "chord")) none in
    let then_few : length once.links ≤ 64 =
    omega (arith, empty, length-append s.links (record_of (codes "next") next ∷ [])) in (
      once,
      link-added s (codes "next") next n free follows few,
      (
        record once { links = once.links ++ record_of (codes "chord") chord ∷ [] },
        link-added once (codes "chord") chord c then_free follows then_few,
        refl,
      ),
    )
