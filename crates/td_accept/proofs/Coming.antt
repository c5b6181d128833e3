-- The first of some items, and an address behind others.
use Rattle.std.proofs.Common.{◌≡◌, ◌<◌, List, [], ◌∷◌, ◌++◌, length, get_or, remove, true, refl, sym, ap, arith}
use Rattle.td_accept.specs.declared.mem_accept.Endpoint.{Endpoint}
use Rattle.td_accept.specs.InMemory.{some_of}

pub first_of : {X : Type 0} (items : List X) (first : X) → 0 < length items → first ≡ get_or items 0 first
    → items ≡ first ∷ remove items 0
first_of [] first h e = absurd (omega arith)
first_of (x ∷ xs) first h e = ap (λ y. y ∷ xs) (sym e)

pub some_behind : (addresses : List Endpoint) (last : Endpoint) → some_of (addresses ++ last ∷ []) ≡ true
some_behind [] last = refl
some_behind (a ∷ before) last = refl
