-- What a call may have moved over the wire, whatever comes of it: a refusal too has written no more than the one
-- request, over no more than the one connection.
use Rattle.std.specs.Prelude.{◌≡◌, ◌⊎◌, List, ◌++◌, ℕ, Option, None, Some, IfSome, option_map}
use Rattle.td_typecode.specs.declared.reference.Ior.{Ior}
use Rattle.td_ior.specs.declared.profile.Iiop.{Iiop}
use Rattle.td_ior.specs.Profiles.{iiop_of}
use Rattle.td_wire.specs.Connections.{Traffic, GivesFront, end_connection, open_connection, wrote}

-- ---- over a connection that stands

-- a front of the request was written, and nothing given
pub record SendsFront (request : List ℕ) (before after : Option Traffic) : Type 0 where
  pub written : List ℕ
  pub unwritten : List ℕ
  pub front : request ≡ written ++ unwritten
  pub wire : after ≡ option_map (wrote written) before

-- nothing was written, and bytes came off the front of what was left
pub record ReadsUnasked (before after : Option Traffic) : Type 0 where
  pub piece : List ℕ
  pub gives : GivesFront piece before after

pub data MovesTraffic (request : List ℕ) (before after : Option Traffic) : Type 0 where
  -- the request was written in part, or not at all
  sent : SendsFront request before after → MovesTraffic request before after
  -- it was written whole, and then bytes were given
  heard : ReadsUnasked (option_map (wrote request) before) after → MovesTraffic request before after

-- ---- whether a connection stands

-- none does, as far as the wire tells
abbrev pub IsDisconnected : Option Traffic → Type 0
IsDisconnected content = IfSome content (λ t. t.current ≡ None)

-- where none stood before, none stands afterwards
abbrev pub StaysDisconnected : (before after : Option Traffic) → Type 0
StaysDisconnected before after = IsDisconnected before → IsDisconnected after

-- ---- over a connection of its own

-- none was made; the one that stood may have ended
abbrev pub ConnectsNone : (before after : Option Traffic) → Type 0
ConnectsNone before after = (after ≡ before) ⊎ (after ≡ option_map end_connection before)

pub data LeavesAt (request : List ℕ) (p : Iiop) (before after : Option Traffic) : Type 0 where
  unopened : ConnectsNone before after → LeavesAt request p before after
  -- one connection was made, and no more than the one request written over it, and it has ended
  over : (last : Option Traffic)
      → MovesTraffic request (option_map (open_connection p.host p.port) before) last
      → after ≡ option_map end_connection last → LeavesAt request p before after

pub data LeavesTraffic (request : Iiop → List ℕ) (target : Ior)
    (before after : Option Traffic) : Type 0 where
  -- so it is with an object that has no IIOP profile
  untouched : after ≡ before → LeavesTraffic request target before after
  reached : (p : Iiop) → iiop_of target ≡ Some p → LeavesAt (request p) p before after
      → LeavesTraffic request target before after
