-- What peers in memory play is noted.
use Rattle.std.proofs.Common.{◌≡◌, ℕ, ◌<◌, ◌≤◌, List, [], ◌∷◌, ◌++◌, length, append-nil, sym, ap, ◌∙◌, subst, arith}
use Rattle.std.specs.Prelude.{Option, IfSome, Result, Ok, Err}
use Rattle.std.proofs.lemmas.List.{length-map, map-append}
use Rattle.td_typecode.specs.declared.reference.Ior.{Ior}
use Rattle.td_out.specs.Causes.{next_count, Rose}
use Rattle.td_peers.specs.Noted.{exchange_of, exchanges}
use Rattle.td_peers.specs.Scripts.{ScriptState, IsPlayed, after, entry_at, faults_after, gives, is_given, next_entry}
use Rattle.td_peers.specs.Scripts.{with_call}
use Rattle.td_peers.specs.declared.note.Note.{Note}
use Rattle.td_walk.specs.Peering.{PeerCall, PeerAnswer, Failed, IsNoted, Exchange}
use Rattle.td_walk.specs.declared.fault.PeerFault.{PeerFault}
use Rattle.td_walk.specs.declared.fault.PeerFault.TheVariants as fault

-- ---- notes

pub noted_next : (notes new : List Note) (n : Note) (e : Exchange) → new ≡ notes ++ n ∷ [] → exchange_of n ≡ e
    → exchanges new ≡ exchanges notes ++ e ∷ []
noted_next notes new n e more is =
    ap exchanges more
    ∙ (map-append exchange_of notes (n ∷ []) ∙ ap (λ (x : Exchange). exchanges notes ++ x ∷ []) is)

pub counted : (notes : List Note) → length (exchanges notes) ≡ length notes
counted notes = length-map notes exchange_of

-- ---- a call is noted, and then its entry taken out

module _ (call : PeerCall) (target : Ior) (place : Option ℕ) (old mid : ScriptState) where
  pub still_within : mid ≡ with_call old call (gives call (entry_at old.script place))
      → IfSome place (λ i. i < length old.script) → IfSome place (λ i. i < length mid.script)
  still_within is within = subst (λ (p : ScriptState). IfSome place (λ i. i < length p.script)) (sym is) within

-- ---- a call that was played is noted

module _ (call : PeerCall) (target : Ior) (old new : ScriptState) where
  calls-are : (given : PeerAnswer) → gives call (next_entry old target) ≡ given → new ≡ after old target call
      → new.calls ≡ old.calls ++ record { call = call; gave = given } ∷ []
  calls-are given is left =
      ap (λ (p : ScriptState). p.calls) left
      ∙ ap (λ (g : PeerAnswer). old.calls ++ record { call = call; gave = g } ∷ []) is

  rose : (f : PeerFault) → gives call (next_entry old target) ≡ Failed f → new ≡ after old target call
      → Rose old.faults new.faults
  rose f is left =
      let faults : new.faults ≡ next_count old.faults =
      ap (λ (p : ScriptState). p.faults) left ∙ ap (λ (g : PeerAnswer). faults_after old.faults (is_given g)) is in
      omega (arith, faults)

  pub noted : {X : Type 0} (given : X → PeerAnswer) (r : Result X PeerFault) → IsPlayed given call target old new r
      → old.faults ≤ new.faults → IsNoted given call old.calls new.calls old.faults new.faults r
  noted given (Ok x) h later = record { calls = calls-are (given x) h.0 h.1; later = later; cause = tt }
  noted given (Err fault.Wire) h later =
      record { calls = calls-are (Failed fault.Wire) h.0 h.1; later = later; cause = rose fault.Wire h.0 h.1 }
  noted given (Err fault.Grammar) h later =
      record { calls = calls-are (Failed fault.Grammar) h.0 h.1; later = later; cause = rose fault.Grammar h.0 h.1 }
  noted given (Err fault.Exception) h later = record {
    calls = calls-are (Failed fault.Exception) h.0 h.1;
    later = later;
    cause = rose fault.Exception h.0 h.1;
  }
  noted given (Err fault.Memory) h later = record {
    calls = ap (λ (p : ScriptState). p.calls) h ∙ sym (append-nil old.calls);
    later = later;
    cause = tt;
  }
