-- A script whose offers are small and whose entries can be written, with an entry more or less; and what it gives.
use Rattle.std.proofs.Common.{◌≡◌, ℕ, zero, suc, ◌<◌, List, [], ◌∷◌, ◌++◌, length, get_or, refl, sym, ap, subst}
use Rattle.std.proofs.lemmas.Option.{slice_get_read}
use Rattle.std.specs.List.{remove, slice_get}
use Rattle.std.specs.Prelude.{Option, None, Some, IfSome, option_map}
use Rattle.td_peers.specs.Noted.{exchange_by}
use Rattle.td_peers.specs.Scripts.{AreAllowed, IsAllowed, Script, entry_at, gives, rest_of}
use Rattle.td_peers.specs.declared.scripted.Scripted.{Scripted}
use Rattle.td_peers.specs.declared.scripted.Scripted.TheVariants as scripted
use Rattle.td_walk.proofs.Gifts.{gave_next}
use Rattle.td_walk.specs.Peering.{AdmitsExchanges, AdmitsGift, Exchange, PeerCall}
use Rattle.td_walk.specs.Peering.{Querying, Evaluating, RegisterOf, Resolving}

-- an entry that is taken out is the one that stands there
pub taken : (s : Script) (i : ℕ) (e : List ℕ × Scripted) → i < length s → e ≡ get_or s i e
    → Some e.1 ≡ entry_at s (Some i)
taken s i e within is =
    sym (ap (option_map (λ (x : List ℕ × Scripted). x.1)) (slice_get_read s (length s) i e refl within is))

all-small-next : (s : Script) (e : List ℕ × Scripted) → AreAllowed s → IsAllowed e.1 → AreAllowed (s ++ e ∷ [])
all-small-next [] e all small = (small, tt)
all-small-next (x ∷ s) e all small = (all.0, all-small-next s e all.1 small)

-- an entry more at the end
pub small_next : (s new : Script) (e : List ℕ × Scripted) → new ≡ s ++ e ∷ [] → AreAllowed s → IsAllowed e.1 → AreAllowed new
small_next s new e is all small = subst AreAllowed (sym is) (all-small-next s e all small)

small-without : (s : Script) (i : ℕ) → AreAllowed s → AreAllowed (remove s i)
small-without [] zero all = tt
small-without [] (suc i) all = tt
small-without (x ∷ s) zero all = all.1
small-without (x ∷ s) (suc i) all = (all.0, small-without s i all.1)

pub rest_small : (s : Script) (place : Option ℕ) → AreAllowed s → AreAllowed (rest_of s place)
rest_small s None all = all
rest_small s (Some i) all = small-without s i all

small-at : (s : Script) (i : ℕ) → AreAllowed s → IfSome (option_map (λ e. e.1) (slice_get s i)) IsAllowed
small-at [] i all = tt
small-at (x ∷ s) zero all = all.0
small-at (x ∷ s) (suc i) all = small-at s i all.1

pub entry_small : (s : Script) (place : Option ℕ) → AreAllowed s → IfSome (entry_at s place) IsAllowed
entry_small s None all = tt
entry_small s (Some i) all = small-at s i all

-- ---- what an entry gives

gift_allowed : (c : PeerCall) (o : Option Scripted) → IfSome o IsAllowed → AdmitsGift (gives c o)
gift_allowed (Querying t q) (Some (scripted.Offers a)) h = h.1
gift_allowed (Evaluating t n c x) (Some (scripted.Evaluated v)) h = h
gift_allowed (RegisterOf t) (Some (scripted.Reference r)) h = h
gift_allowed (Resolving t n) (Some (scripted.Reference r)) h = h
gift_allowed call entry h = tt

-- the call to which the entry is given that stands there
pub noted_allowed : (script : Script) (place : Option ℕ) (c : PeerCall) (before after : List Exchange)
    → after ≡ before ++ exchange_by c (entry_at script place) ∷ [] → AreAllowed script → AdmitsExchanges before
    → AdmitsExchanges after
noted_allowed script place c before after is all gave =
    subst AdmitsExchanges (sym is) (gave_next before (exchange_by c (entry_at script place)) gave
    (gift_allowed c (entry_at script place) (entry_small script place all)))
