-- Each trader of a generated file opens.
use Rattle.std.proofs.Common.{◌≡◌, ℕ, zero, suc, ◌+◌, ◌%◌, ◌<◌, ◌≤◌, List, [], ◌∷◌, ◌++◌, length, map, Result, Ok}
use Rattle.std.proofs.Common.{codes, refl, sym, ap, subst, ◌∙◌, arith}
use Rattle.std.specs.List.{AllByRecursion}
use Rattle.td_cdr.specs.Reading.{◌>>=◌}
use Rattle.td_file.specs.Openings.{all_traders, bounds, new_store, opening_store, store_after, trader_of}
use Rattle.td_lines.specs.declared.entry.FileEntry.{FileEntry}
use Rattle.td_lines.specs.declared.entry.Refused.{Refused}
use Rattle.td_lines.specs.declared.entry.TraderScript.{TraderScript}
use Rattle.td_make.specs.Generated.{chord_after, next_after}
use Rattle.td_make_file_laws.proofs.Adding.{base-added, base_alone, both_types, sub-added}
use Rattle.td_make_file_laws.proofs.Exporting.{AreOffered, offered}
use Rattle.td_make_file_laws.proofs.Going.{Goes, entries-go, goes-joined, local_address}
use Rattle.td_make_file_laws.proofs.Meeting.{both-added, record_of}
use Rattle.td_make_laws.specs.Said.{PlainScript, plain_script, entries_in, first_names, head_entries, link_entries}
use Rattle.td_make_laws.specs.Said.{name_of, offer_entries, ring_trader, ring_traders, type_entries}
use Rattle.td_register.specs.Stores.{Store}
use Rattle.td_trader.specs.PlainTraders.{PlainTrader, new_trader}
use Rattle.td_policy.specs.declared.attributes.Attributes.{Attributes}
use Rattle.td_types.specs.Repository.{InterfaceBases}

-- ---- a trader's entries

module _ (count trader : ℕ) (least : 1 ≤ count) (ring : count ≤ 64) (most : trader ≤ 64) (name : List ℕ) where
  abbrev first : Store
  first = new_store local_address name []

  abbrev with_base : Store
  with_base = record first { types = base_alone }

  abbrev with_both : Store
  with_both = record first { types = both_types }

  types-go : Goes local_address first type_entries with_both
  unfolding new_store
  types-go = (with_base, base-added first refl, (with_both, sub-added with_base refl, refl))

  offers-go : AreOffered trader with_both 10
  unfolding new_store
  offers-go = offered trader most with_both refl refl refl 10 (omega arith)

  abbrev linked : Store
  linked = record offers-go.after {
    links =
        (offers-go.after.links ++ record_of (codes "next") (next_after count trader) ∷ [])
        ++ record_of (codes "chord") (chord_after count trader) ∷ [];
  }

  links-go : Goes local_address offers-go.after (link_entries count trader) linked
  unfolding new_store
  links-go =
      both-added offers-go.after (next_after count trader) (chord_after count trader) (omega (arith, least, ring))
      (omega (arith, least, ring)) offers-go.links
      (ap (λ (a : Attributes). a.max_link_follow_policy) offers-go.attributes)

  all-go : Goes local_address first (ring_trader count trader).entries linked
  all-go =
      goes-joined local_address (head_entries trader) (link_entries count trader) first offers-go.after linked
      (goes-joined local_address type_entries (offer_entries trader 10) first with_both offers-go.after types-go
      (offers-go.goes local_address))
      links-go

  pub trader-goes : (t : TraderScript) → t.name ≡ name → t.interfaces ≡ []
      → entries_in t.entries ≡ (ring_trader count trader).entries
      → (s : Store) × (opening_store local_address t ≡ Ok s)
  trader-goes t named plain says = (
    linked,
    ap (λ (n : List ℕ). store_after local_address (new_store local_address n t.interfaces) t.entries) named
        ∙ (ap (λ (ds : InterfaceBases). store_after local_address (new_store local_address name ds) t.entries) plain
        ∙ entries-go local_address t.entries first linked
        (subst (λ (es : List FileEntry). Goes local_address first es linked) (sym says) all-go)),
  )

-- ---- all traders

-- a trader that is asked this opens, under its name
abbrev pub IsOpened : PlainScript → Type 0
IsOpened a = (t : TraderScript) → plain_script t ≡ a
    → (p : PlainTrader) × (trader_of local_address t ≡ Ok p) × (p.name ≡ t.name)

ring-opens : (count trader : ℕ) → 1 ≤ count → count ≤ 64 → trader ≤ 64 → IsOpened (ring_trader count trader)
ring-opens count trader least ring most t says =
    let named : t.name ≡ name_of trader = ap (λ (a : PlainScript). a.name) says in
    let opens =
    trader-goes count trader least ring most (name_of trader) t named (ap (λ (a : PlainScript). a.interfaces) says)
    (ap (λ (a : PlainScript). a.entries) says) in (
      new_trader t.name opens.0 bounds,
      ap (λ (r : Result Store Refused). r >>= λ s. Ok (new_trader t.name s bounds)) opens.1,
      refl,
    )

all-joined : (P : PlainScript → Type 0) (xs : List PlainScript) (x : PlainScript) → AllByRecursion P xs → P x
    → AllByRecursion P (xs ++ x ∷ [])
all-joined P [] x a h = (h, tt)
all-joined P (y ∷ xs) x a h = (a.0, all-joined P xs x a.1 h)

all-open : (count done : ℕ) → 1 ≤ count → count ≤ 64 → done ≤ 64 → AllByRecursion IsOpened (ring_traders count done)
all-open count zero least ring most = tt
all-open count (suc done) least ring most =
    all-joined IsOpened (ring_traders count done) (ring_trader count (suc done))
    (all-open count done least ring (omega (arith, most))) (ring-opens count (suc done) least ring most)

-- so they open, one after the other
pub record AreOpened (ts : List TraderScript) : Type 0 where
  pub traders : List PlainTrader
  pub is : all_traders local_address ts ≡ Ok traders
  pub names : map (λ (p : PlainTrader). p.name) traders ≡ map (λ (t : TraderScript). t.name) ts

each-opened : (ts : List TraderScript) → AllByRecursion IsOpened (map plain_script ts) → AreOpened ts
each-opened [] all = record { traders = []; is = refl; names = refl }
each-opened (t ∷ ts) all =
    let first = all.0 t refl in
    let others = each-opened ts all.1 in
    record {
      traders = first.0 ∷ others.traders;
      is =
          ap (λ (r : Result PlainTrader Refused). r >>= λ p. all_traders local_address ts >>= λ ps. Ok (p ∷ ps)) first.1
          ∙ ap (λ (r : Result (List PlainTrader) Refused). r >>= λ ps. Ok (first.0 ∷ ps)) others.is;
      names =
          ap (λ (n : List ℕ). n ∷ map (λ (p : PlainTrader). p.name) others.traders) first.2
          ∙ ap (λ (ns : List (List ℕ)). t.name ∷ ns) others.names;
    }

pub ring-opened : (count : ℕ) (ts : List TraderScript) → 1 ≤ count → count ≤ 64 → map plain_script ts ≡ ring_traders count count
    → AreOpened ts
ring-opened count ts least ring says =
    each-opened ts
    (subst (λ (asks : List PlainScript). AllByRecursion IsOpened asks) (sym says) (all-open count count least ring ring))
