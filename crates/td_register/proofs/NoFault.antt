-- What holds where nothing is at fault with a service type that is added.
use Rattle.std.proofs.Common.{◌≡◌, ℕ, Bool, true, false, ◌||◌, cond, List, [], ◌∷◌, Option, Some, None, refl}
use Rattle.td_types.specs.Adding.{or_else}
use Rattle.td_types.specs.Repository.{has_type, is_named, type_named}
use Rattle.td_types.specs.declared.entry.ServiceType.{ServiceType}

pub no-first : {X : Type 0} (a b : Option X) → or_else a b ≡ None → a ≡ None
no-first None b h = refl
no-first (Some x) b h = absurd (let bad : ⊥ = cc in bad)

pub no-later : {X : Type 0} (a b : Option X) → or_else a b ≡ None → b ≡ None
no-later None b h = h
no-later (Some x) b h = absurd (let bad : ⊥ = cc in bad)

pub not-so : {X : Type 0} (b : Bool) (x : X) (rest : Option X) → cond b (Some x) rest ≡ None → (b ≡ false) × (rest ≡ None)
not-so true x rest h = absurd (let bad : ⊥ = cc in bad)
not-so false x rest h = (refl, h)

pub is-so : {X : Type 0} (b : Bool) (x : X) (rest : Option X) → cond b rest (Some x) ≡ None → (b ≡ true) × (rest ≡ None)
is-so true x rest h = (refl, h)
is-so false x rest h = absurd (let bad : ⊥ = cc in bad)

-- ---- a type that is found

named-when : (b : Bool) (x t : ServiceType) (later : Option ServiceType) (any : Bool) → (later ≡ Some t → any ≡ true)
    → cond b (Some x) later ≡ Some t → (b || any) ≡ true
named-when true x t later any k h = refl
named-when false x t later any k h = k h

pub there-is : (ts : List ServiceType) (name : List ℕ) (t : ServiceType) → type_named ts name ≡ Some t
    → has_type ts name ≡ true
there-is [] name t h = absurd (let bad : ⊥ = cc in bad)
there-is (x ∷ ts) name t h =
    named-when (is_named name x) x t (type_named ts name) (has_type ts name) (there-is ts name t) h
