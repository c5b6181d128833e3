-- The count of faults over the calls of peers.
use Rattle.std.proofs.Common.{◌≡◌, ℕ, List, Option, None, Result, Ok, Err, IfOk, sym, subst}
use Rattle.td_cdr.specs.Marks.{Marks}
use Rattle.td_cdr.specs.declared.memory.Memory.{Memory as OutOfMemory}
use Rattle.td_typecode.specs.declared.reference.Ior.{Ior}
use Rattle.td_fed.specs.Resolving.{ResolvesFrom, IsAskedFor, RoseIfUngiven, inside, named, outside, unknown}
use Rattle.td_fed.specs.Resolving.{given, ungiven, no_memory_outcome}
use Rattle.td_fed.specs.declared.resolving.NameAnswer.{NameAnswer}
use Rattle.td_register.specs.declared.history.Accepted.{Accepted}
use Rattle.td_trader.specs.Worlds.{View}
use Rattle.td_walk.specs.Peering.{Exchange, Resolving}
use Rattle.td_walk.specs.declared.fault.PeerFault.{PeerFault}
use Rattle.td_walk.specs.declared.trace.Address.{Address}
use Rattle.td_query_walk.proofs.Counting.{counted-none, one-rose}
use Rattle.td_query_walk.specs.Faults.{CountsFaults}

-- no call was made
pub nothing_counted : (calls : List Exchange) (faults : ℕ) → CountsFaults calls calls faults faults
nothing_counted calls faults = counted-none calls faults

-- ---- a register that gave none

asked-rose : {point : ℕ} {whole rest : List (List ℕ)} {register : Ior} {calls : List Exchange} {a : NameAnswer}
    {now : List Exchange} (faults later : ℕ) → IsAskedFor point whole rest register calls a now
    → CountsFaults calls now faults later → RoseIfUngiven a.asked faults later
asked-rose faults later (given r) c = tt
asked-rose faults later (no_memory_outcome r) c = tt
asked-rose {rest = rest} {register = register} {calls = calls} faults later (ungiven f h) c =
    one-rose (Resolving register rest) f calls faults later c

module _ (others : List Accepted → Type 0) (later : Marks → Marks → Type 0) (home : Address) where
  follow-rose : {whole : List (List ℕ)} {calls : List Exchange} {w : List View} {k : ℕ} {names : List (List ℕ)}
      {a : NameAnswer} {u : List View} {now : List Exchange} (faults high : ℕ)
      → ResolvesFrom others later home whole calls w k names a u now → CountsFaults calls now faults high
      → RoseIfUngiven a.asked faults high
  follow-rose faults high (unknown h) c = tt
  follow-rose faults high (named register h) c = tt
  follow-rose faults high (inside register n h i more) c = follow-rose faults high more c
  follow-rose faults high (outside register h i a) c = asked-rose faults high a c

  pub failed-if : (whole : List (List ℕ)) (calls now : List Exchange) (w u : List View) (k : ℕ)
      (names : List (List ℕ)) (faults high : ℕ) (r : Result NameAnswer OutOfMemory)
      → IfOk r (λ a. ResolvesFrom others later home whole calls w k names a u now) → CountsFaults calls now faults high
      → IfOk r (λ a. RoseIfUngiven a.asked faults high)
  failed-if whole calls now w u k names faults high (Ok a) h c = follow-rose faults high h c
  failed-if whole calls now w u k names faults high (Err e) h c = tt

pub unasked-if : (faults now : ℕ) (r : Result NameAnswer OutOfMemory) (P : NameAnswer → Type 0) → IfOk r P
    → ((a : NameAnswer) → P a → a.asked ≡ None) → IfOk r (λ a. RoseIfUngiven a.asked faults now)
unasked-if faults now (Ok a) P h none =
    subst (λ (x : Option (Result Ior PeerFault)). RoseIfUngiven x faults now) (sym (none a h)) tt
unasked-if faults now (Err e) P h none = tt
