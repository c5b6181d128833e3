-- What looks are answered with can be written.
use Rattle.std.proofs.Common.{ℕ, ◌<◌, ◌≤◌, Bool, true, false, cond, List, [], map, filter}
use Rattle.std.proofs.Common.{Option, Some, None, Ok, refl, arith}
use Rattle.std.proofs.lemmas.List.{length-map}
use Rattle.td_cdr.specs.Names.{word_name}
use Rattle.td_cdr.specs.Sound.{sequence, text}
use Rattle.td_typecode.specs.References.{profile, reference}
use Rattle.td_exceptions.specs.declared.exception.UserException.TheVariants.{NotImplemented}
use Rattle.td_ops.specs.Answers.{AdmitsOutcome}
use Rattle.td_ops.specs.declared.attribute.Attribute.{Attribute}
use Rattle.td_ops.specs.declared.attribute.Attribute.TheVariants as attribute
use Rattle.td_ops.specs.declared.call.Look.TheVariants as look
use Rattle.td_ops.specs.declared.operation.AdminOperation.TheVariants as admin
use Rattle.td_ops.specs.declared.operation.LinkOperation.TheVariants as link
use Rattle.td_ops.specs.declared.operation.Operation.{Operation}
use Rattle.td_ops.specs.declared.operation.Operation.TheVariants.{Admin, Get, Link, Proxy, Register, Types}
use Rattle.td_ops.specs.declared.operation.ProxyOperation.TheVariants as proxy_operation
use Rattle.td_ops.specs.declared.operation.RegisterOperation.TheVariants as register
use Rattle.td_ops.specs.declared.operation.TypesOperation.TheVariants as types_operation
use Rattle.td_ior.specs.Nil.{nil}
use Rattle.td_ops.specs.declared.outcome.Outcome.{Outcome}
use Rattle.td_ops.specs.declared.outcome.Outcome.TheVariants.{Done, User}
use Rattle.td_ops.specs.declared.outcome.Reply.TheVariants as reply
use Rattle.td_store.specs.OfferLists.{is_of_kind}
use Rattle.td_store.specs.Stores.{AdmitsLink, AdmitsProxy, IsOffer, link_info_of, offer_info_of}
use Rattle.td_store.specs.declared.record.LinkRecord.{LinkRecord}
use Rattle.td_store.specs.declared.record.OfferRecord.{OfferRecord}
use Rattle.td_store.specs.declared.record.ProxyPart.{ProxyPart}
use Rattle.td_types.specs.Calls.{act_on, describe_type as described, fully_describe_type as fully_described}
use Rattle.td_types.specs.Calls.{is_listed, list_types as listed_types, refuse}
use Rattle.td_types.specs.Descriptions.{description, full_description}
use Rattle.td_types.specs.Repository.{Repository, halves, type_named}
use Rattle.td_types.specs.Writable.{StaysWritable}
use Rattle.td_types.specs.declared.entry.ServiceType.{ServiceType}
use Rattle.td_types.specs.declared.fault.RepoFault.TheVariants as fault
use Rattle.td_types.specs.declared.reply.TypesReply.TheVariants as content
use Rattle.td_types.proofs.Admitted.{described-written, fully_described-written, list-written}
use Rattle.td_types.proofs.Sequences.{each-filter, each-map, filter-length, sequence-from}
use Rattle.td_value.specs.Structures.{policy, proxy_info, type_struct}
use Rattle.td_value.specs.declared.structures.TypeStruct.{TypeStruct}
use Rattle.td_value.specs.declared.unions.SpecifiedServiceTypes.{SpecifiedServiceTypes}
use Rattle.td_register.specs.Causes.{tells}
use Rattle.td_register.specs.Ids.{id_of, ordinary, proxy}
use Rattle.td_register.specs.Proxies.{describe_proxy, if_supported, proxy_info as info_of, proxy_info_of}
use Rattle.td_register.specs.Registers.{describe, last_number}
use Rattle.td_register.specs.Stores.{Store}
use Rattle.td_register.specs.declared.refusal.Refusal.TheVariants.{NotSupported}
use Rattle.td_admin.specs.Administration.{all_ids, attribute_reply, follow_of, get, ids_of, list_offers, list_proxies}
use Rattle.td_admin.specs.Administration.{number_of, reference_of, truth_of}
use Rattle.td_changes.specs.Applying.{seen}
use Rattle.td_admin.specs.Links.{describe_link, link_named, list_links}
use Rattle.td_admin.specs.Repositories.{describe_type, fully_describe_type, list_types, outcome_of, since}
use Rattle.td_trader_laws.specs.Writable.{IsWritableStore, LooksAreWritable}
use Rattle.td_trader_laws.proofs.Admitting.{decimal-clean, refused-admitted, tells-admitted}
use Rattle.td_trader.proofs.ReadAdmitted.{follow-admitted}
use Rattle.td_trader_laws.proofs.AdmittingAttributes.{number-admitted, reference-admitted}
use Rattle.td_trader_laws.proofs.AdmittingLinks.{linked-held}
use Rattle.td_trader_laws.proofs.AdmittingOffers.{IsHeld, ordinary-held, proxy-held}
use Rattle.td_trader_laws.proofs.AdmittingTypes.{halves-admitted}

-- ---- offers and links

describes : (s : Store) (id : List ℕ) → IsWritableStore s → text.format.admits id
    → AdmitsOutcome (Register register.Describe) (describe s id)
unfolding describe
describes s id w i =
    tells-admitted (Register register.Describe) (IsHeld s.offers) (ordinary s.offers id)
    (λ o. reply.Offer (offer_info_of o)) (ordinary-held s id w.store i)
    (λ o h. (refl, (offer_info_of o, refl, h.offer.admitted.info)))

proxy-content : (o : OfferRecord) (part : Option ProxyPart) → IsOffer o → AdmitsProxy part
    → proxy_info.format.admits (proxy_info_of o part)
proxy-content o None h k =
    let i = h.admitted.info in (i.1.0, (i.0, (i.1.1, (tt, (refl, sequence-from policy [] (omega arith) tt)))))
proxy-content o (Some part) h k = let i = h.admitted.info in (i.1.0, (i.0, (i.1.1, (tt, (k.0, k.1)))))

supported-content : (o : Operation) (supports : Bool) (outcome : Outcome) → AdmitsOutcome o outcome
    → AdmitsOutcome o (if_supported supports outcome)
supported-content o true outcome h = h
supported-content o false outcome h = refused-admitted o NotSupported tt

describes-proxy : (s : Store) (id : List ℕ) → IsWritableStore s → text.format.admits id
    → AdmitsOutcome (Proxy proxy_operation.DescribeProxy) (describe_proxy s id)
unfolding describe_proxy
describes-proxy s id w i =
    supported-content (Proxy proxy_operation.DescribeProxy) s.attributes.supports_proxy_offers
    (tells (proxy s.offers id) (λ o. reply.Proxy (info_of o)))
    (tells-admitted (Proxy proxy_operation.DescribeProxy) (IsHeld s.offers) (proxy s.offers id)
    (λ o. reply.Proxy (info_of o)) (proxy-held s id w.store i)
    (λ o h. (refl, (info_of o, refl, proxy-content o o.proxy h.offer h.offer.admitted.proxy))))

describes-link : (s : Store) (name : List ℕ) → IsWritableStore s → text.format.admits name
    → AdmitsOutcome (Link link.DescribeLink) (describe_link s name)
unfolding describe_link
describes-link s name w n =
    tells-admitted (Link link.DescribeLink) AdmitsLink (link_named s.links name) (λ l. reply.Link (link_info_of l))
    (linked-held s name w.store n) (λ l h. (refl, (link_info_of l, refl, h.info)))

lists-links : (s : Store) → IsWritableStore s → AdmitsOutcome (Link link.ListLinks) (list_links s)
unfolding list_links
lists-links s w =
    let same = length-map s.links (λ (l : LinkRecord). l.name) in
    let few = w.store.few_links in
    let names : List (List ℕ) = map (λ (l : LinkRecord). l.name) s.links in (
      refl,
      (
        names,
        refl,
        sequence-from text names (omega (arith, same, few))
            (each-map AdmitsLink text.format.admits (λ (l : LinkRecord). l.name) s.links (λ l h. h.name) w.store.links),
      ),
    )

-- ---- ids

nil-admitted : reference.format.admits nil
nil-admitted = (refl, sequence-from profile [] (omega arith) tt)

id-clean : (last : ℕ) (o : OfferRecord) → last ≤ last_number → (0 < o.number) × (o.number ≤ last)
    → text.format.admits (id_of o.number)
id-clean last o most h = let below = h.1 in decimal-clean o.number (omega (arith, most, below))

ids-admitted : (s : Store) (proxies : Bool) → IsWritableStore s
    → (sequence text).format.admits (ids_of proxies s.offers)
ids-admitted s proxies w =
    let kept = filter (is_of_kind proxies) s.offers in
    let same = length-map kept (λ (o : OfferRecord). id_of o.number) in
    let fewer = filter-length (is_of_kind proxies) s.offers in
    let few = w.store.few_offers in
    sequence-from text (ids_of proxies s.offers) (omega (arith, same, fewer, few))
    (each-map (λ o. (0 < o.number) × (o.number ≤ s.last_offer)) text.format.admits
    (λ (o : OfferRecord). id_of o.number) kept (λ o h. id-clean s.last_offer o w.last_offer h)
    (each-filter (λ o. (0 < o.number) × (o.number ≤ s.last_offer)) (is_of_kind proxies) s.offers
    w.store.offers_counted))

lists-offers : (s : Store) → IsWritableStore s → AdmitsOutcome (Admin admin.ListOffers) (list_offers s)
unfolding list_offers
lists-offers s w = (refl, ((ids_of false s.offers, nil), refl, (ids-admitted s false w, nil-admitted)))

proxies-when : (supports : Bool) (s : Store) → IsWritableStore s
    → AdmitsOutcome (Admin admin.ListProxies) (cond supports (all_ids true s) (User NotImplemented))
proxies-when true s w = (refl, ((ids_of true s.offers, nil), refl, (ids-admitted s true w, nil-admitted)))
proxies-when false s w = refl

lists-proxies : (s : Store) → IsWritableStore s → AdmitsOutcome (Admin admin.ListProxies) (list_proxies s)
unfolding list_proxies
lists-proxies s w = proxies-when s.attributes.supports_proxy_offers s w

-- ---- types

type-content : (o : Operation) (named : Bool) (found : Option ServiceType) (name : List ℕ)
    (tell : ServiceType → TypeStruct) (r : Repository) → text.format.admits name
    → ((d : TypeStruct) → type_struct.format.admits d → AdmitsOutcome o (Done (reply.Typed d)))
    → StaysWritable (cond named (act_on found name (λ t. Ok (content.Described (tell t), r)))
    (refuse (fault.IllegalServiceType name)))
    → AdmitsOutcome o (outcome_of (cond named (act_on found name (λ t. Ok (content.Described (tell t), r)))
    (refuse (fault.IllegalServiceType name))))
type-content o true (Some t) name tell r n k h = k (tell t) h.0
type-content o true None name tell r n k h = (name, refl, n)
type-content o false found name tell r n k h = (name, refl, n)

describes-type : (s : Store) (name : List ℕ) → IsWritableStore s → text.format.admits name
    → AdmitsOutcome (Types types_operation.DescribeType) (describe_type s name)
unfolding describe_type described
describes-type s name w n =
    type-content (Types types_operation.DescribeType) (word_name name) (type_named s.types.types name) name description
    s.types n (λ d h. (refl, (d, refl, h))) (described-written s.types name w.store.types_writable n)

describes-fully : (s : Store) (name : List ℕ) → IsWritableStore s → text.format.admits name
    → AdmitsOutcome (Types types_operation.FullyDescribeType) (fully_describe_type s name)
unfolding fully_describe_type fully_described
describes-fully s name w n =
    type-content (Types types_operation.FullyDescribeType) (word_name name) (type_named s.types.types name) name
    (full_description s.types.types) s.types n (λ d h. (refl, (d, refl, h)))
    (fully_described-written s.types name w.store.types_writable n)

lists-types : (s : Store) (which : SpecifiedServiceTypes) → IsWritableStore s
    → AdmitsOutcome (Types types_operation.ListTypes) (list_types s which)
unfolding list_types listed_types
lists-types s which w =
    let listed : List ServiceType = filter (is_listed (since which)) s.types.types in
    let names : List (List ℕ) = map (λ (t : ServiceType). t.name) listed in
    (refl, (names, refl, (list-written s.types (since which) w.store.types_writable).0))

-- ---- attributes

reads : (s : Store) (which : Attribute) → IsWritableStore s → AdmitsOutcome (Get which) (Done (attribute_reply s which))
reads s (attribute.Reference which) w =
    (refl, (reference_of which s.attributes, refl, reference-admitted which s.attributes w.store.attributes))
reads s (attribute.Truth which) w = (refl, (truth_of which s.attributes, refl, tt))
reads s (attribute.Number which) w =
    (refl, (number_of which s.attributes, refl, number-admitted which s.attributes w.numbers))
reads s (attribute.Follow which) w =
    (refl, (follow_of which s.attributes, refl, follow-admitted (follow_of which s.attributes)))
reads s attribute.RequestIdStem w = (refl, (s.attributes.request_id_stem, refl, tt))
reads s attribute.Incarnation w = (refl, (halves s.types.last, refl, halves-admitted s.types.last w.incarnation))

gets : (s : Store) (which : Attribute) → IsWritableStore s → AdmitsOutcome (Get which) (get s which)
unfolding get
gets s which w = reads s which w

-- ---- all of them

pub looks : LooksAreWritable
unfolding seen
looks s (look.Describe id) w h = describes s id w h
looks s (look.DescribeLink name) w h = describes-link s name w h
looks s look.ListLinks w h = lists-links s w
looks s (look.DescribeProxy id) w h = describes-proxy s id w h
looks s (look.ListOffers how_many) w h = lists-offers s w
looks s (look.ListProxies how_many) w h = lists-proxies s w
looks s (look.ListTypes which) w h = lists-types s which w
looks s (look.DescribeType name) w h = describes-type s name w h
looks s (look.FullyDescribeType name) w h = describes-fully s name w h
looks s (look.Get which) w h = gets s which w
