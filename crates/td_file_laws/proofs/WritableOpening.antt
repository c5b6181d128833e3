-- The traders that a file of octets opens can be written.
use Rattle.std.proofs.Common.{◌≡◌, ℕ, Bool, true, false, List, [], ◌∷◌, Option, Some, None, Result, Ok, Err, refl, subst}
use Rattle.std.proofs.Common.{arith, if◌then◌else◌}
use Rattle.std.specs.List.{AllByRecursion, IsDistinct}
use Rattle.std.specs.List.Sorted.{IsStrictlySortedBy}
use Rattle.td_cdr.specs.Reading.{◌>>=◌}
use Rattle.td_cdr.specs.Text.{HasNoNul}
use Rattle.td_changes.specs.Applying.{apply}
use Rattle.td_changes.specs.Histories.{is_done}
use Rattle.td_typecode.specs.References.{reference}
use Rattle.td_file.specs.Files.{Opening, home_address, opening, opening_of, opening_with, unless_refused}
use Rattle.td_file.specs.Openings.{all_traders, behind, bounds, change_of, later_refusal, missing_in}
use Rattle.td_file.specs.Openings.{new_store, opening_store, store_after, trader_of}
use Rattle.td_file_laws.proofs.AcceptingTypes.{accepted}
use Rattle.td_file_laws.specs.Files.{FilesOpenWritableTraders}
use Rattle.td_ior.proofs.Texts.{made-admitted}
use Rattle.td_ior.specs.Keys.{written_key}
use Rattle.td_lines.proofs.Telling.{content}
use Rattle.td_lines.specs.Scripts.{script_of}
use Rattle.td_lines.specs.Parsing.{AreParsedEntries, AreParsedScripts, IsParsedChange, IsParsedEntry}
use Rattle.td_lines.specs.declared.entry.FileEntry.{FileEntry}
use Rattle.td_lines.specs.declared.entry.FileEntry.TheVariants as entry
use Rattle.td_lines.specs.declared.entry.Home.{Home}
use Rattle.td_lines.specs.declared.entry.Numbered.{Numbered}
use Rattle.td_lines.specs.declared.entry.Refused.{Refused}
use Rattle.td_lines.specs.declared.entry.Script.{Script}
use Rattle.td_lines.specs.declared.entry.TraderScript.{TraderScript}
use Rattle.td_objects.specs.Interfaces.{interface_id}
use Rattle.td_objects.specs.References.{own_reference, trader_references}
use Rattle.td_objects.specs.declared.interface.Interface.{Interface}
use Rattle.td_objects.specs.declared.interface.Interface.TheVariants as interface
use Rattle.td_ops.specs.declared.call.Change.{Change}
use Rattle.td_register.specs.Causes.{Effect}
use Rattle.td_register.specs.Stores.{Store}
use Rattle.td_trader.specs.PlainTraders.{PlainTrader, new_trader}
use Rattle.td_trader_laws.proofs.Written.{changes}
use Rattle.td_trader_laws.specs.Writable.{IsWritableStore}
use Rattle.td_trader_laws.specs.WritableTraders.{IsWritableTrader}
use Rattle.td_types.proofs.Admitted.{new-written}
use Rattle.td_types.proofs.Start.{no_types}
use Rattle.td_types.specs.Repository.{InterfaceBases}
use Rattle.td_value.specs.declared.key.Kind.{Kind}
use Rattle.td_value.specs.declared.key.Kind.TheVariants as kind
use Rattle.td_walk.specs.declared.trace.Address.{Address}

-- ---- a new trader's store

own : (home : Address) (i : Interface) (name : List ℕ) (k : Kind) → HasNoNul (interface_id i)
    → reference.format.admits (own_reference home i name k)
own home i name k clean =
    made-admitted (interface_id i) home.host (written_key (record { trader = name; kind = k })) home.port home.minor clean

new-writable : (home : Address) (name : List ℕ) (interfaces : InterfaceBases) → IsWritableStore (new_store home name interfaces)
unfolding new_store trader_references IsDistinct IsStrictlySortedBy
new-writable home name interfaces = record {
  store =
      record {
        types = no_types interfaces;
        types_writable = new-written interfaces;
        offers = tt;
        offers_rise = tt;
        offers_counted = tt;
        few_offers = omega arith;
        links = tt;
        links_named = tt;
        few_links = omega arith;
        attributes =
            record {
              lookup_if = own home interface.Lookup name kind.Lookup refl;
              register_if = own home interface.Register name kind.Register refl;
              link_if = own home interface.Link name kind.Link refl;
              proxy_if = own home interface.Proxy name kind.Proxy refl;
              admin_if = own home interface.Admin name kind.Admin refl;
              type_repos = own home interface.ServiceTypeRepository name kind.Types refl;
            };
      };
  numbers =
      record {
        def_search_card = omega arith;
        max_search_card = omega arith;
        def_match_card = omega arith;
        max_match_card = omega arith;
        def_return_card = omega arith;
        max_return_card = omega arith;
        max_list = omega arith;
        def_hop_count = omega arith;
        max_hop_count = omega arith;
      };
  last_offer = omega arith;
  incarnation = omega arith;
}

-- ---- its entries

asked : (home : Address) (e : FileEntry) → IsParsedEntry e → IsParsedChange (change_of home e)
asked home (entry.Change c) h = h
asked home (entry.Link name trader def_pass_on limiting) h = (
  own home interface.Lookup trader kind.Lookup refl,
  own home interface.Register trader kind.Register refl,
)

-- an applied change, where it was done
entered-done : (done : Bool) (a : Effect) (refused : Refused) (more : Store)
    → (if done then Ok a.store else Err refused) ≡ Ok more → (done ≡ true) × (a.store ≡ more)
entered-done true a refused more e = (refl, (let same : a.store ≡ more = cc in same))
entered-done false a refused more e = absurd (let bad : ⊥ = cc in bad)

behind-writable : (home : Address) (s : Store) (one : Numbered) (more : Store) → IsWritableStore s
    → IsParsedEntry one.entry → behind home s one ≡ Ok more → IsWritableStore more
behind-writable home s one more w h e =
    let c = change_of home one.entry in
    let a = apply s c in
    let d = entered-done (is_done a.outcome) a _ more e in
    subst IsWritableStore d.1 (changes s c w (accepted s c (asked home one.entry h) d.0)).store

entries-writable : (home : Address) (s : Store) (entries : List Numbered) (after : Store) → IsWritableStore s
    → AreParsedEntries entries → store_after home s entries ≡ Ok after → IsWritableStore after
entries-writable home s [] after w h e = subst IsWritableStore (let same : s ≡ after = cc in same) w
entries-writable home s (one ∷ others) after w h e =
    go (behind home s one) (λ more is. behind-writable home s one more w h.0 is)
    (λ more v is. entries-writable home more others after v h.1 is) e
  where
    go : (r : Result Store Refused) → ((more : Store) → r ≡ Ok more → IsWritableStore more)
        → ((more : Store) → IsWritableStore more → store_after home more others ≡ Ok after → IsWritableStore after)
        → (r >>= λ more. store_after home more others) ≡ Ok after → IsWritableStore after
    go (Ok more) first rest e = rest more (first more refl) e
    go (Err f) first rest e = absurd (let bad : ⊥ = cc in bad)

-- ---- traders

one-writable : (home : Address) (t : TraderScript) (r : Result Store Refused)
    → ((s : Store) → r ≡ Ok s → IsWritableStore s) → (u : PlainTrader)
    → (r >>= λ s. Ok (new_trader t.name s bounds)) ≡ Ok u → IsWritableTrader u
one-writable home t (Ok s) h u e =
    subst IsWritableTrader (let same : new_trader t.name s bounds ≡ u = cc in same)
    (record { opening = h s refl; changes = tt })
one-writable home t (Err f) h u e = absurd (let bad : ⊥ = cc in bad)

all-writable : (home : Address) (ts : List TraderScript) (us : List PlainTrader) → AreParsedScripts ts
    → all_traders home ts ≡ Ok us → AllByRecursion IsWritableTrader us
all-writable home [] us h e = subst (AllByRecursion IsWritableTrader) (let same : [] ≡ us = cc in same) tt
all-writable home (t ∷ ts) us h e =
    go (trader_of home t)
    (λ u is. one-writable home t (opening_store home t)
    (λ s at. entries-writable home (new_store home t.name t.interfaces) t.entries s
    (new-writable home t.name t.interfaces) h.0 at)
    u is)
    (all_traders home ts) (λ vs is. all-writable home ts vs h.1 is) e
  where
    go : (r : Result PlainTrader Refused) → ((u : PlainTrader) → r ≡ Ok u → IsWritableTrader u)
        → (s : Result (List PlainTrader) Refused)
        → ((vs : List PlainTrader) → s ≡ Ok vs → AllByRecursion IsWritableTrader vs)
        → (r >>= λ first. s >>= λ others. Ok (first ∷ others)) ≡ Ok us → AllByRecursion IsWritableTrader us
    go (Err f) one s all e = absurd (let bad : ⊥ = cc in bad)
    go (Ok first) one (Err f) all e = absurd (let bad : ⊥ = cc in bad)
    go (Ok first) one (Ok others) all e =
        subst (AllByRecursion IsWritableTrader) (let same : first ∷ others ≡ us = cc in same)
        (one first refl, all others refl)

at-writable : (home : Address) (seed : List ℕ) (r : Result (List PlainTrader) Refused) (later : Option Refused)
    → ((us : List PlainTrader) → r ≡ Ok us → AllByRecursion IsWritableTrader us) → (o : Opening)
    → (r >>= λ traders. unless_refused later (opening home seed traders)) ≡ Ok o
    → AllByRecursion IsWritableTrader o.traders
at-writable home seed (Err f) later all o e = absurd (let bad : ⊥ = cc in bad)
at-writable home seed (Ok us) (Some f) all o e = absurd (let bad : ⊥ = cc in bad)
at-writable home seed (Ok us) None all o e =
    subst (λ (z : Opening). AllByRecursion IsWritableTrader z.traders)
    (let same : opening home seed us ≡ o = cc in same) (all us refl)

with-writable : (s : Script) (h : Option Home) (o : Opening) → AreParsedScripts s.traders → opening_with s h ≡ Ok o
    → AllByRecursion IsWritableTrader o.traders
with-writable s None o t e = absurd (let bad : ⊥ = cc in bad)
with-writable s (Some home) o t e =
    at-writable (home_address home) s.seed (all_traders (home_address home) s.traders)
    (later_refusal s.refused (missing_in s.traders s.traders))
    (λ us is. all-writable (home_address home) s.traders us t is) o e

pub files-open-writable : FilesOpenWritableTraders
unfolding opening_of
files-open-writable text o octets e =
    with-writable (script_of text) (script_of text).home o (content text octets) e
