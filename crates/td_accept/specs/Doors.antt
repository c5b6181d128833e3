-- What an acceptor tells: where it was bound, and who comes.
use Rattle.std.specs.Prelude.{◌≡◌, ℕ, List, [], ◌∷◌, ◌++◌, Option, None, Some, Result, IfOk, OnOk}
use Rattle.std.specs.Prelude.{OnErr, option_map}
use Rattle.td_accept.specs.declared.mem_accept.Endpoint.{Endpoint}

-- the addresses to which it was bound, in order, and the visitors that are left
pub record Door (X : Type 0) : Type 0 where
  pub addresses : List Endpoint
  pub visitors : List X

-- ---- the calls of an acceptor

-- it was bound to one address more
abbrev pub bound_to : {X : Type 0} → List ℕ → ℕ → Door X → Door X
bound_to host port d = record d {
  addresses = d.addresses ++ record { host = host; port = port }
      ∷ [];
}

pub record Binds {X T E : Type 0} (host : List ℕ) (port : ℕ) (before after : Option (Door X))
    (result : Result T E) : Type 0 where
  pub ok : OnOk result (after ≡ option_map (bound_to host port) before)
  pub err : OnErr result (after ≡ before)

-- the first visitor that was left has come, or there was none left
abbrev pub VisitorComes : {X : Type 0} → Option X → Option (Door X) → Option (Door X) → Type 0
VisitorComes came None after = after ≡ None
VisitorComes None (Some d) after = (d.visitors ≡ []) × (after ≡ Some d)
VisitorComes {X} (Some visitor) (Some d) after =
    (rest : List X) × (d.visitors ≡ visitor ∷ rest) × (after ≡ Some (record d { visitors = rest }))

pub record GivesVisitor {X E : Type 0} (before after : Option (Door X))
    (result : Result (Option X) E) : Type 0 where
  pub ok : IfOk result (λ came. VisitorComes came before after)
  pub err : OnErr result (after ≡ before)
