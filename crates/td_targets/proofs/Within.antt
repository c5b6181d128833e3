-- A trader that a reference or a name stands for is one of the group.
use Rattle.std.proofs.Common.{◌≡◌, ℕ, ◌<◌, Bool, true, false, cond, List, [], ◌∷◌, length, Option, None, Some, suc, subst}
use Rattle.std.proofs.Common.{arith}
use Rattle.std.specs.Option.{option_map}
use Rattle.std.specs.Str.{bytes_eq}
use Rattle.td_typecode.specs.declared.reference.Ior.{Ior}
use Rattle.td_targets.specs.Targets.{home_key, inside_group, keyed_in, lookup_by, place_of, register_by}
use Rattle.td_targets.specs.Targets.{register_inside, registered_in}
use Rattle.td_trader.specs.Worlds.{View}
use Rattle.td_value.specs.declared.key.Kind.{Kind}
use Rattle.td_value.specs.declared.key.Kind.TheVariants as kind
use Rattle.td_value.specs.declared.key.ObjectKey.{ObjectKey}
use Rattle.td_walk.specs.declared.trace.Address.{Address}

-- there is a trader of this number, if there is a number
abbrev pub Within : ℕ → Option ℕ → Type 0
Within n None = Unit {0}
Within n (Some k) = k < n

next-within : (n : ℕ) (o : Option ℕ) → Within n o → Within (suc n) (option_map suc o)
next-within n None h = tt
next-within n (Some k) h = omega (arith, h)

choice-within : (n : ℕ) (b : Bool) (x y : Option ℕ) → Within n x → Within n y → Within n (cond b x y)
choice-within n true x y h k = h
choice-within n false x y h k = k

place-within : (w : List View) (name : List ℕ) → Within (length w) (place_of w name)
unfolding place_of
place-within [] name = tt
place-within (v ∷ vs) name =
    choice-within (length (v ∷ vs)) (bytes_eq v.name name) (Some 0) (option_map suc (place_of vs name)) (omega arith)
    (next-within (length vs) (place_of vs name) (place-within vs name))

lookup-within : (w : List View) (name : List ℕ) (kind : Kind) → Within (length w) (lookup_by w name kind)
lookup-within w name kind.Lookup = place-within w name
lookup-within w name kind.Register = tt
lookup-within w name kind.Link = tt
lookup-within w name kind.Proxy = tt
lookup-within w name kind.Admin = tt
lookup-within w name kind.Types = tt
lookup-within w name (kind.Iterator n) = tt

register-within : (w : List View) (name : List ℕ) (kind : Kind) → Within (length w) (register_by w name kind)
register-within w name kind.Lookup = tt
register-within w name kind.Register = place-within w name
register-within w name kind.Link = tt
register-within w name kind.Proxy = tt
register-within w name kind.Admin = tt
register-within w name kind.Types = tt
register-within w name (kind.Iterator n) = tt

keyed-within : (w : List View) (key : Option ObjectKey) → Within (length w) (keyed_in w key)
keyed-within w None = tt
keyed-within w (Some key) = lookup-within w key.trader key.kind

registered-within : (w : List View) (key : Option ObjectKey) → Within (length w) (registered_in w key)
registered-within w None = tt
registered-within w (Some key) = register-within w key.trader key.kind

pub inside-within : (home : Address) (w : List View) (target : Ior) (k : ℕ) → inside_group home w target ≡ Some k
    → k < length w
inside-within home w target k is = subst (Within (length w)) is (keyed-within w (home_key home target))

pub register-inside-within : (home : Address) (w : List View) (register : Ior) (k : ℕ)
    → register_inside home w register ≡ Some k → k < length w
register-inside-within home w register k is =
    subst (Within (length w)) is (registered-within w (home_key home register))
