-- The traders of a generated file are sparse: each has two links, and ten offers with a cost that is no dynamic
-- property. The references of these are small.
use Rattle.std.proofs.Common.{◌≡◌, ℕ, zero, suc, ◌+◌, ◌≤◌, Bool, true, false, cond, List, [], ◌∷◌, ◌++◌, length, map}
use Rattle.std.proofs.Common.{Option, None, Some, Result, Ok, Err, refl, sym, ap, subst, arith, length-append}
use Rattle.std.specs.List.{AllByRecursion}
use Rattle.std.specs.Option.{option_and_then, option_map}
use Rattle.std.specs.Str.{bytes_eq}
use Rattle.td_admin.specs.Links.{add_link_cause, new_links}
use Rattle.td_admin.specs.Repositories.{types_cause, with_types}
use Rattle.td_cdr.specs.Reading.{◌>>=◌}
use Rattle.td_changes.specs.Applying.{comes_to}
use Rattle.td_changes.specs.Histories.{after_all}
use Rattle.td_typecode.specs.declared.reference.Ior.{Ior}
use Rattle.td_eval.specs.Properties.{property}
use Rattle.td_file.specs.Files.{Opening, home_address, opening, opening_of, opening_with, unless_refused}
use Rattle.td_file.specs.Openings.{all_traders, behind, bounds, change_of, apply_entry, later_refusal, missing_in}
use Rattle.td_file.specs.Openings.{new_store, opening_store, store_after, trader_of}
use Rattle.td_lines.specs.Scripts.{script_of}
use Rattle.td_lines.specs.declared.entry.FileEntry.{FileEntry}
use Rattle.td_lines.specs.declared.entry.FileEntry.TheVariants as entry
use Rattle.td_lines.specs.declared.entry.Home.{Home}
use Rattle.td_lines.specs.declared.entry.Numbered.{Numbered}
use Rattle.td_lines.specs.declared.entry.Refused.{Refused}
use Rattle.td_lines.specs.declared.entry.Script.{Script}
use Rattle.td_lines.specs.declared.entry.TraderScript.{TraderScript}
use Rattle.td_iter.specs.Heads.{IsSmallReference}
use Rattle.td_audit_run_laws.proofs.Items.{item-small}
use Rattle.td_store.specs.declared.record.OfferRecord.{OfferRecord}
use Rattle.td_log_laws.specs.Short.{ArePlain, HasSmallReferences, IsStaticOffer, SparseTrader}
use Rattle.td_make.specs.Generated.{generated_file}
use Rattle.td_make_laws.specs.Said.{PlainScript, GeneratedAreRead, plain_script, cost_property, entries_in}
use Rattle.td_make_laws.specs.Said.{head_entries, link_entries}
use Rattle.td_make_laws.specs.Said.{offer_entries, offer_entry, ring_trader, ring_traders, type_entries}
use Rattle.td_ops.specs.declared.call.Change.TheVariants as change
use Rattle.td_ops.specs.declared.outcome.Reply.{Reply}
use Rattle.td_ops.specs.declared.outcome.Reply.TheVariants as content
use Rattle.td_register.specs.Causes.{Cause, ChangeResult, effect_of, unless}
use Rattle.td_register.specs.Ids.{id_of}
use Rattle.td_register.specs.Registers.{export_cause, exported_offer, with_offer}
use Rattle.td_register.specs.Stores.{Store}
use Rattle.td_register.specs.declared.refusal.Refusal.TheVariants.{Raised, Limit, NotSupported}
use Rattle.td_trader.specs.PlainTraders.{PlainTrader, new_trader}
use Rattle.td_types.proofs.Sequences.{each-append}
use Rattle.td_types.specs.Calls as types
use Rattle.td_objects.specs.References.{lookup_reference, register_reference}
use Rattle.td_types.specs.Repository.{InterfaceBases}
use Rattle.td_value.specs.declared.enumerations.FollowOption.{FollowOption}
use Rattle.td_value.specs.declared.structures.PropStruct.{PropStruct}
use Rattle.td_value.specs.declared.structures.Property.{Property}
use Rattle.td_walk.specs.Resolving.{dynamic_among, dynamic_named, dynamic_of, members_in}
use Rattle.td_typecode.specs.Labels.{ValueLayer}
use Rattle.td_typecode.specs.Layers.{value-ulong}
use Rattle.td_walk.specs.declared.trace.Address.{Address}

-- ---- a store so far

abbrev AreSmall : List OfferRecord → Type 0
AreSmall os = AllByRecursion (λ (o : OfferRecord). IsSmallReference o.reference) os

-- so many links were added
record SparseBy (n : ℕ) (s : Store) : Type 0 where
  offers : ArePlain s.offers
  small : AreSmall s.offers
  links : length s.links ≤ n
  hops : s.attributes.def_hop_count ≤ 5

-- ---- an offer

if-none : {X : Type 0} (b : Bool) (o : Option X) → o ≡ None → cond b o None ≡ None
if-none true o e = e
if-none false o e = refl

cost-static : (amount : ℕ) → dynamic_of (cost_property amount).value ≡ None
unfolding dynamic_of
cost-static amount =
    if-none _ _ (ap (λ (l : ValueLayer). dynamic_among (members_in l)) (value-ulong amount))

named-static : (amount : ℕ) (name : List ℕ) → dynamic_named (cost_property amount ∷ []) name ≡ None
unfolding dynamic_named property
named-static amount name = by (bytes_eq (cost_property amount).name name) where
  by : (b : Bool)
      → option_and_then dynamic_of (option_map (λ (p : Property). p.value) (cond b (Some (cost_property amount)) None)) ≡ None
  by true = cost-static amount
  by false = refl

offer-plain : (s : Store) (r : Ior) (name : List ℕ) (amount : ℕ)
    → IsStaticOffer (exported_offer s r name (cost_property amount ∷ []))
offer-plain s r name amount = record { ordinary = refl; static = named-static amount }

-- ---- what an entry of a ring asks for, and how many links it adds

data RingEntry : FileEntry → ℕ → Type 0 where
  typed : (name if_name : List ℕ) (props : List PropStruct) (supers : List (List ℕ))
      → RingEntry (entry.Change (change.AddType name if_name props supers)) 0
  offered : (r : Ior) (name : List ℕ) (amount : ℕ) → IsSmallReference r
      → RingEntry (entry.Change (change.Export r name (cost_property amount ∷ []))) 0
  linked : (name trader : List ℕ) (pass limiting : FollowOption) → RingEntry (entry.Link name trader pass limiting) 1

data RingEntries : List FileEntry → ℕ → Type 0 where
  no_entry : RingEntries [] 0
  one_more : {e : FileEntry} {es : List FileEntry} {m n : ℕ} → RingEntry e m → RingEntries es n → RingEntries (e ∷ es) (m + n)

both-entries : (es fs : List FileEntry) (m n : ℕ) → RingEntries es m → RingEntries fs n → RingEntries (es ++ fs) (m + n)
both-entries [] fs m n no_entry k = subst (RingEntries fs) (let same : n ≡ 0 + n = omega arith in same) k
both-entries (e ∷ es) fs m n (one_more {m = a} {n = b} h rest) k =
    subst (RingEntries (e ∷ es ++ fs)) (let same : a + (b + n) ≡ a + b + n = omega arith in same)
    (one_more h (both-entries es fs b n rest k))

offers-ring : (trader count : ℕ) → trader ≤ 64 → count ≤ 10 → RingEntries (offer_entries trader count) 0
offers-ring trader zero low few = no_entry
offers-ring trader (suc done) low few =
    both-entries (offer_entries trader done) (offer_entry trader (suc done) ∷ []) 0 0
    (offers-ring trader done low (omega (arith, few)))
    (one_more (offered _ _ _ (item-small trader (suc done) (omega (arith, low)) (omega (arith, few)))) no_entry)

trader-ring : (count trader : ℕ) → trader ≤ 64 → RingEntries (ring_trader count trader).entries 2
trader-ring count trader low =
    both-entries (head_entries trader) (link_entries count trader) 0 2
    (both-entries type_entries (offer_entries trader 10) 0 0
    (one_more (typed _ _ _ _) (one_more (typed _ _ _ _) no_entry)) (offers-ring trader 10 low (omega arith)))
    (one_more (linked _ _ _ _) (one_more (linked _ _ _ _) no_entry))

-- ---- what comes of an entry

abbrev Kept : (Store → Type 0) → ChangeResult → Type 0
Kept P (Ok x) = P x.1
Kept P (Err f) = Unit {0}

unless-kept : (P : Store → Type 0) (c : Cause) (r : Reply) (after : Store) → P after → Kept P (unless c r after)
unless-kept P None r after h = h
unless-kept P (Some f) r after h = tt

types-kept : (n : ℕ) (s : Store) (c : types.RepositoryResult) → SparseBy n s → SparseBy n (with_types s c)
types-kept n s (Ok answer) h = record { offers = h.offers; small = h.small; links = h.links; hops = h.hops }
types-kept n s (Err f) h = h

step-kept : (home : Address) (n : ℕ) (s : Store) (e : FileEntry) (m : ℕ) → RingEntry e m → SparseBy n s
    → Kept (SparseBy (n + m)) (comes_to s (change_of home e))
unfolding comes_to
step-kept home n s e m (typed name if_name props supers) h =
    subst (λ (k : ℕ). Kept (SparseBy k) (comes_to s (change.AddType name if_name props supers)))
    (let same : n ≡ n + 0 = omega arith in same)
    (let c = types.add_type s.types name if_name props supers in
    unless-kept (SparseBy n) (types_cause c) _ (with_types s c) (types-kept n s c h))
step-kept home n s e m (offered r name amount small) h =
    subst (λ (k : ℕ). Kept (SparseBy k) (comes_to s (change.Export r name (cost_property amount ∷ []))))
    (let same : n ≡ n + 0 = omega arith in same)
    (unless-kept (SparseBy n) (export_cause s r name (cost_property amount ∷ [])) (content.Id (id_of (s.last_offer + 1)))
    (with_offer s (exported_offer s r name (cost_property amount ∷ [])))
    (record {
      offers = each-append IsStaticOffer s.offers (exported_offer s r name (cost_property amount ∷ []) ∷ []) h.offers
          (offer-plain s r name amount, tt);
      small = each-append (λ (o : OfferRecord). IsSmallReference o.reference) s.offers
          (exported_offer s r name (cost_property amount ∷ []) ∷ []) h.small (small, tt);
      links = h.links;
      hops = h.hops;
    }))
step-kept home n s e m (linked name trader pass limiting) h =
    let target : Ior = lookup_reference home trader in
    let register : Option Ior = Some (register_reference home trader) in
    unless-kept (SparseBy (n + 1)) (add_link_cause s name target pass limiting register) content.Nothing
    (record s { links = s.links ++ new_links name target pass limiting register })
    (record {
      offers = h.offers;
      small = h.small;
      links = (let few = h.links in
          omega (arith, few, length-append s.links (new_links name target pass limiting register)));
      hops = h.hops;
    })

ok-same : {X F : Type 0} (x y : X) → ◌≡◌ {A = Result X F} (Ok x) (Ok y) → x ≡ y
ok-same x y e = cc

never-ok : {X F : Type 0} (f : F) (y : X) → ◌≡◌ {A = Result X F} (Err f) (Ok y) → ⊥
never-ok f y e = absurd (cc)

entered-kept : (P : Store → Type 0) (s : Store) (c : ChangeResult) (line : ℕ) (t : Store) → Kept P c
    → apply_entry line (effect_of s c) ≡ Ok t → P t
entered-kept P s (Ok x) line t h e = subst P (ok-same x.1 t e) h
entered-kept P s (Err (Raised x)) line t h e = absurd (never-ok _ t e)
entered-kept P s (Err Limit) line t h e = absurd (never-ok _ t e)
entered-kept P s (Err NotSupported) line t h e = absurd (never-ok _ t e)

entries-kept : (home : Address) (es : List Numbered) (n m : ℕ) (s u : Store) → RingEntries (entries_in es) m
    → SparseBy n s → store_after home s es ≡ Ok u → SparseBy (n + m) u
entries-kept home [] n m s u no_entry h e =
    subst (SparseBy (n + 0)) (ok-same s u e)
    (subst (λ (k : ℕ). SparseBy k s) (let same : n ≡ n + 0 = omega arith in same) h)
entries-kept home (one ∷ others) n m s u (one_more {m = a} {n = b} first rest) h e =
    by (behind home s one)
    (λ t is. entered-kept (SparseBy (n + a)) s (comes_to s (change_of home one.entry)) one.line t
    (step-kept home n s one.entry a first h) is)
    (λ t kept is. entries-kept home others (n + a) b t u rest kept is) e
  where
    by : (r : Result Store Refused) → ((t : Store) → r ≡ Ok t → SparseBy (n + a) t)
        → ((t : Store) → SparseBy (n + a) t → store_after home t others ≡ Ok u → SparseBy (n + a + b) u)
        → (r >>= λ more. store_after home more others) ≡ Ok u → SparseBy (n + (a + b)) u
    by (Err f) kept later e = absurd (never-ok f u e)
    by (Ok t) kept later e =
        subst (λ (k : ℕ). SparseBy k u) (let same : n + a + b ≡ n + (a + b) = omega arith in same)
        (later t (kept t refl) e)

-- ---- traders

abbrev IsRing : PlainScript → Type 0
IsRing a = RingEntries a.entries 2

new-sparse : (home : Address) (name : List ℕ) (ds : InterfaceBases) → SparseBy 0 (new_store home name ds)
unfolding new_store
new-sparse home name ds = record { offers = tt; small = tt; links = omega arith; hops = omega arith }

-- what comes of each
abbrev IsSmallRing : PlainTrader → Type 0
IsSmallRing u = SparseTrader u × HasSmallReferences u

one-sparse : (home : Address) (t : TraderScript) → IsRing (plain_script t) → (r : Result Store Refused)
    → opening_store home t ≡ r → (u : PlainTrader) → (r >>= λ s. Ok (new_trader t.name s bounds)) ≡ Ok u → IsSmallRing u
unfolding after_all
one-sparse home t ring (Err f) is u e = absurd (never-ok f u e)
one-sparse home t ring (Ok s) is u e =
    let kept =
    entries-kept home t.entries 0 2 (new_store home t.name t.interfaces) s ring (new-sparse home t.name t.interfaces) is
    in
    subst IsSmallRing (ok-same (new_trader t.name s bounds) u e)
    (record { offers = kept.offers; links = kept.links; hops = kept.hops }, kept.small)

all-sparse : (home : Address) (ts : List TraderScript) (us : List PlainTrader) → AllByRecursion IsRing (map plain_script ts)
    → all_traders home ts ≡ Ok us → AllByRecursion IsSmallRing us
all-sparse home [] us ring e = subst (AllByRecursion IsSmallRing) (ok-same [] us e) tt
all-sparse home (t ∷ ts) us ring e =
    go (trader_of home t) (λ u is. one-sparse home t ring.0 (opening_store home t) refl u is) (all_traders home ts)
    (λ vs is. all-sparse home ts vs ring.1 is) e
  where
    go : (r : Result PlainTrader Refused) → ((u : PlainTrader) → r ≡ Ok u → IsSmallRing u)
        → (s : Result (List PlainTrader) Refused)
        → ((vs : List PlainTrader) → s ≡ Ok vs → AllByRecursion IsSmallRing vs)
        → (r >>= λ first. s >>= λ others. Ok (first ∷ others)) ≡ Ok us → AllByRecursion IsSmallRing us
    go (Err f) one s all e = absurd (never-ok f us e)
    go (Ok first) one (Err f) all e = absurd (never-ok f us e)
    go (Ok first) one (Ok others) all e =
        subst (AllByRecursion IsSmallRing) (ok-same (first ∷ others) us e) (one first refl, all others refl)

rings : (count done : ℕ) → done ≤ 64 → AllByRecursion IsRing (ring_traders count done)
rings count zero low = tt
rings count (suc done) low =
    each-append IsRing (ring_traders count done) (ring_trader count (suc done) ∷ [])
    (rings count done (omega (arith, low))) (trader-ring count (suc done) low, tt)

at-sparse : (home : Address) (seed : List ℕ) (r : Result (List PlainTrader) Refused) (later : Option Refused)
    → ((us : List PlainTrader) → r ≡ Ok us → AllByRecursion IsSmallRing us) → (o : Opening)
    → (r >>= λ traders. unless_refused later (opening home seed traders)) ≡ Ok o
    → AllByRecursion IsSmallRing o.traders
at-sparse home seed (Err f) later all o e = absurd (never-ok f o e)
at-sparse home seed (Ok us) (Some f) all o e = absurd (never-ok f o e)
at-sparse home seed (Ok us) None all o e =
    subst (λ (z : Opening). AllByRecursion IsSmallRing z.traders) (ok-same (opening home seed us) o e) (all us refl)

with-sparse : (s : Script) (h : Option Home) (o : Opening) → AllByRecursion IsRing (map plain_script s.traders)
    → opening_with s h ≡ Ok o → AllByRecursion IsSmallRing o.traders
with-sparse s None o ring e = absurd (never-ok _ o e)
with-sparse s (Some home) o ring e =
    at-sparse (home_address home) s.seed (all_traders (home_address home) s.traders)
    (later_refusal s.refused (missing_in s.traders s.traders))
    (λ us is. all-sparse (home_address home) s.traders us ring is) o e

generated-rings : GeneratedAreRead → (count : ℕ) (o : Opening) → 1 ≤ count → count ≤ 64
    → opening_of (generated_file count) ≡ Ok o → AllByRecursion IsSmallRing o.traders
unfolding opening_of
generated-rings read count o least most e =
    let s : Script = script_of (generated_file count) in
    with-sparse s s.home o
    (subst (AllByRecursion IsRing) (sym (read count least most).traders) (rings count count most)) e

both-each : (us : List PlainTrader) → AllByRecursion IsSmallRing us
    → AllByRecursion SparseTrader us × AllByRecursion HasSmallReferences us
both-each [] h = (tt, tt)
both-each (u ∷ us) h = let later = both-each us h.1 in ((h.0.0, later.0), (h.0.1, later.1))

pub generated-sparse : GeneratedAreRead → (count : ℕ) (o : Opening) → 1 ≤ count → count ≤ 64
    → opening_of (generated_file count) ≡ Ok o → AllByRecursion SparseTrader o.traders
generated-sparse read count o least most e = (both-each o.traders (generated-rings read count o least most e)).0

pub generated-small : GeneratedAreRead → (count : ℕ) (o : Opening) → 1 ≤ count → count ≤ 64
    → opening_of (generated_file count) ≡ Ok o → AllByRecursion HasSmallReferences o.traders
generated-small read count o least most e = (both-each o.traders (generated-rings read count o least most e)).1
