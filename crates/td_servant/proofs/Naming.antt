-- The objects that keys name.
use Rattle.std.proofs.Common.{◌≡◌, ℕ, suc, ◌<◌, Bool, true, false, if◌then◌else◌, List, [], ◌∷◌, length, refl, sym}
use Rattle.std.proofs.Common.{ap, subst, ◌∙◌, arith, Option, Some, None, IfSome}
use Rattle.std.specs.Prelude.{option_map}
use Rattle.std.specs.Str.{bytes_eq}
use Rattle.td_cdr.specs.Names.{IsTraderName}
use Rattle.td_targets.specs.Targets.{place_of}
use Rattle.td_ior.proofs.Keys.{bind-Some, keys-agree, same-bytes, some-is}
use Rattle.td_ior.specs.Keys.{key_of}
use Rattle.td_iter.specs.Desks.{Live}
use Rattle.td_trader.specs.Worlds.{View, name_at}
use Rattle.td_value.specs.declared.key.ObjectKey.{ObjectKey}
use Rattle.td_servant.specs.Objects.{IsNamed, interface_of, object_at, object_keyed, object_of, object_with}
use Rattle.td_servant.specs.declared.objects.Object.{Object}

map-Some : {A B : Type 0} (f : A → B) (o : Option A) (y : B) → option_map f o ≡ Some y
    → (x : A) × (o ≡ Some x) × (f x ≡ y)
map-Some f (Some x) y e = (x, refl, some-is (f x) y e)
map-Some f None y e = absurd cc

-- the trader of a name is there, and has it
record Placed (w : List View) (name : List ℕ) (k : ℕ) : Type 0 where
  within : k < length w
  is_named : name_at w k ≡ name

placed_here : (v : View) (vs : List View) (name : List ℕ) (b : Bool) (k : ℕ) → bytes_eq v.name name ≡ b
    → ((j : ℕ) → place_of vs name ≡ Some j → Placed vs name j)
    → (if b then Some 0 else option_map suc (place_of vs name)) ≡ Some k → Placed (v ∷ vs) name k
placed_here v vs name true k e behind found =
    let zeroth : 0 ≡ k = some-is 0 k found in
    subst (Placed (v ∷ vs) name) zeroth
    (record { within = omega arith; is_named = same-bytes v.name name e })
placed_here v vs name false k e behind found =
    let m = map-Some suc (place_of vs name) k found in
    let p = behind m.0 m.1 in
    subst (Placed (v ∷ vs) name) m.2
    (record { within = (let h = p.within in omega (arith, h)); is_named = p.is_named })

placed_at : (w : List View) (name : List ℕ) (k : ℕ) → place_of w name ≡ Some k → Placed w name k
unfolding place_of
placed_at [] name k e = absurd cc
placed_at (v ∷ vs) name k e =
    placed_here v vs name (bytes_eq v.name name) k refl (λ j found. placed_at vs name j found) e

-- the trader of an object with a key
keyed_trader : (w : List View) (d : Live) (key : ObjectKey) (x : Object) → object_keyed w d key ≡ Some x
    → place_of w key.trader ≡ Some x.trader
keyed_trader w d key x e =
    let p = bind-Some (place_of w key.trader) (λ (k : ℕ). object_of w d k key.kind) x e in
    let m = map-Some (object_with p.0 key.kind) (interface_of (name_at w p.0) d key.kind) x p.2 in
    p.1 ∙ ap (λ (y : Object). Some y.trader) m.2

keyed_named : (w : List View) (d : Live) (octets : List ℕ) (key : ObjectKey) (x : Object) → key_of octets ≡ Some key
    → object_keyed w d key ≡ Some x → IsNamed w x.trader
keyed_named w d octets key x is e =
    let p = placed_at w key.trader x.trader (keyed_trader w d key x e) in
    record {
      within = p.within;
      named = subst IsTraderName (sym p.is_named) (keys-agree.found octets key is).trader;
    }

pub found_named : (w : List View) (d : Live) (octets : List ℕ) (key : ObjectKey) (o : Option Object)
    → key_of octets ≡ Some key → o ≡ object_keyed w d key → IfSome o (λ x. IsNamed w x.trader)
found_named w d octets key (Some x) is e = keyed_named w d octets key x is (sym e)
found_named w d octets key None is e = tt

pub found_at : (w : List View) (d : Live) (octets : List ℕ) (key : ObjectKey) (o : Option Object)
    → key_of octets ≡ Some key → o ≡ object_keyed w d key → o ≡ object_at w d octets
unfolding object_at
found_at w d octets key o is e = rw is e

pub none_at : (w : List View) (d : Live) (octets : List ℕ) → key_of octets ≡ None → None ≡ object_at w d octets
unfolding object_at
none_at w d octets is = rw is refl

pub place_within : (w : List View) (name : List ℕ) (k : ℕ) → place_of w name ≡ Some k → k < length w
place_within w name k e = (placed_at w name k e).within
