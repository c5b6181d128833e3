-- From the end of one call to the next.
use Rattle.std.proofs.Common.{◌≡◌, ℕ, List, OnOk, Option, Result, subst}
use Rattle.std.proofs.lemmas.Result.{on_ok_weaker}
use Rattle.td_accept.specs.Doors.{Door}
use Rattle.td_server.proofs.Coming.{stand}
use Rattle.td_server.specs.Kinds.{ServerKind}
use Rattle.td_server.specs.Sessions.{WordsBySeeding, ServerState, HandedSessions}
use Rattle.td_server.specs.Whole.{Whole}

pub if_ok : {T E P Q : Type 0} (r : Result T E) → OnOk r P → (P → Q) → OnOk r Q
if_ok r p f = on_ok_weaker r f p

-- the same end, told in other words
pub ends_at : (k : ServerKind) {X : Type 0} (outside_of : X → k.Outside) (seeded : X → WordsBySeeding) (s : ServerState k X)
    (given g : k.Given) (seed z : List ℕ) (door : Option (Door X)) (content : Option (HandedSessions k X)) (world : k.World)
    → g ≡ given → z ≡ seed → Whole {k = k} outside_of seeded s (stand k g z door content world)
    → Whole {k = k} outside_of seeded s (stand k given seed door content world)
ends_at k outside_of seeded s given g seed z door content world is_g is_z w =
    subst (Whole {k = k} outside_of seeded s)
    (λ i. record { given = is_g i; seed = is_z i; door = door; content = content; world = world }) w
