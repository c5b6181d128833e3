-- Which trader a target is, is told by the traders' names alone, and these never change.
use Rattle.std.proofs.Common.{◌≡◌, ℕ, suc, List, [], ◌∷◌, map, slice_get, slice_set, Option, Some, None, Bool, refl}
use Rattle.std.proofs.Common.{sym}
use Rattle.std.proofs.Common.{◌∙◌, ap, if◌then◌else◌}
use Rattle.std.proofs.lemmas.List.{map-set}
use Rattle.std.proofs.lemmas.Option.{slice_get-map}
use Rattle.std.specs.Option.{option_map}
use Rattle.std.specs.Str.{bytes_eq}
use Rattle.td_typecode.specs.declared.reference.Ior.{Ior}
use Rattle.td_net.specs.Worlds.{inside}
use Rattle.td_net_laws.proofs.Places.{set-get}
use Rattle.td_targets.specs.Targets.{home_key, keyed_in, lookup_by, place_of}
use Rattle.td_trader.specs.PlainTraders.{PlainTrader}
use Rattle.td_trader.specs.Solos.{solo_view}
use Rattle.td_value.specs.declared.key.Kind.{Kind}
use Rattle.td_value.specs.declared.key.Kind.TheVariants as kind
use Rattle.td_value.specs.declared.key.ObjectKey.{ObjectKey}
use Rattle.td_walk.specs.declared.trace.Address.{Address}

abbrev pub name_of : PlainTrader → List ℕ
name_of t = t.name

head-same : {X : Type 0} (x y : X) (xs ys : List X) → x ∷ xs ≡ y ∷ ys → x ≡ y
head-same x y xs ys e = cc

rest-same : {X : Type 0} (x y : X) (xs ys : List X) → x ∷ xs ≡ y ∷ ys → xs ≡ ys
rest-same x y xs ys e = cc

place-names : (ts us : List PlainTrader) (name : List ℕ) → map name_of us ≡ map name_of ts
    → place_of (map solo_view us) name ≡ place_of (map solo_view ts) name
unfolding place_of
place-names [] [] name e = refl
place-names [] (u ∷ us) name e = absurd (cc)
place-names (t ∷ ts) [] name e = absurd (cc)
place-names (t ∷ ts) (u ∷ us) name e =
    let same = head-same u.name t.name (map name_of us) (map name_of ts) e in
    let rest = place-names ts us name (rest-same u.name t.name (map name_of us) (map name_of ts) e) in
    ap (λ z. if bytes_eq z name then Some 0 else option_map suc (place_of (map solo_view us) name)) same
    ∙ ap (λ z. if bytes_eq t.name name then Some 0 else option_map suc z) rest

lookup-names : (ts us : List PlainTrader) (name : List ℕ) (k : Kind) → map name_of us ≡ map name_of ts
    → lookup_by (map solo_view us) name k ≡ lookup_by (map solo_view ts) name k
lookup-names ts us name kind.Lookup e = place-names ts us name e
lookup-names ts us name kind.Register e = refl
lookup-names ts us name kind.Link e = refl
lookup-names ts us name kind.Proxy e = refl
lookup-names ts us name kind.Admin e = refl
lookup-names ts us name kind.Types e = refl
lookup-names ts us name (kind.Iterator n) e = refl

keyed-names : (ts us : List PlainTrader) (o : Option ObjectKey) → map name_of us ≡ map name_of ts
    → keyed_in (map solo_view us) o ≡ keyed_in (map solo_view ts) o
keyed-names ts us None e = refl
keyed-names ts us (Some key) e = lookup-names ts us key.trader key.kind e

pub inside-names : (ts us : List PlainTrader) (home : Address) (target : Ior) → map name_of us ≡ map name_of ts
    → inside us home target ≡ inside ts home target
inside-names ts us home target e = keyed-names ts us (home_key home target) e

pub names-set : (ts : List PlainTrader) (n : ℕ) (t u : PlainTrader) → slice_get ts n ≡ Some t → u.name ≡ t.name
    → map name_of (slice_set ts n u) ≡ map name_of ts
names-set ts n t u is same =
    map-set name_of ts n u
    ∙ (ap (slice_set (map name_of ts) n) same
    ∙ set-get (map name_of ts) n t.name (slice_get-map name_of ts n ∙ ap (option_map name_of) is))

pub inside-set : (ts : List PlainTrader) (n : ℕ) (t u : PlainTrader) (home : Address) (target : Ior)
    → slice_get ts n ≡ Some t → u.name ≡ t.name → inside (slice_set ts n u) home target ≡ inside ts home target
inside-set ts n t u home target is same =
    inside-names ts (slice_set ts n u) home target (names-set ts n t u is same)
