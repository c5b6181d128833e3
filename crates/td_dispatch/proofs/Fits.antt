-- A short reply fits in the reserved bytes.
use Rattle.std.proofs.Common.{◌≡◌, ℕ, ◌≤◌, List, [], ◌++◌, length, Result, Ok, Err, IsOk, ap, arith, refl}
use Rattle.std.proofs.Common.{length-append}
use Rattle.td_cdr.specs.declared.order.Order.{Order}
use Rattle.td_cdr.specs.Writing.{Draft, Adds}
use Rattle.td_giop.specs.Written.{reply_start}
use Rattle.td_giop.proofs.Lengths.{reply_start_length}

pub started_short : (s : Draft) (order : Order) (room minor id status : ℕ) (bytes : List ℕ)
    → s ≡ record { bytes = []; order = order; room = room } → bytes ≡ s.bytes ++ reply_start s.order minor id status
    → length bytes ≤ 24
started_short s order room minor id status bytes e h =
    let h2 : bytes ≡ [] ++ reply_start order minor id status = rw e at h in
    omega (arith, ap (length {A = ℕ}) h2, reply_start_length order minor id status)

-- what is written behind the start of a Reply keeps its header
pub started_long : (order : Order) (minor id status : ℕ) (before bytes all more : List ℕ)
    → bytes ≡ before ++ reply_start order minor id status → all ≡ bytes ++ more → 12 ≤ length all
started_long order minor id status before bytes all more started grown =
    omega (
      arith,
      ap (length {A = ℕ}) started,
      ap (length {A = ℕ}) grown,
      length-append bytes more,
      length-append before (reply_start order minor id status),
      reply_start_length order minor id status,
    )

pub room_still : (s : Draft) (order : Order) (room then now : ℕ) → s ≡ record { bytes = []; order = order; room = room }
    → s.room ≤ then → then ≤ now → room ≤ now
room_still s order room then now e first second = omega (arith, ap (λ (d : Draft). d.room) e)

pub room_kept : (s t : Draft) (order : Order) (room : ℕ) → s ≡ record { bytes = []; order = order; room = room }
    → s.room ≤ t.room → 512 ≤ room → 512 ≤ t.room
room_kept s t order room e le h = omega (arith, ap (λ (d : Draft). d.room) e)

-- a short message is written into a writer that was begun again
pub written_whole : {E : Type 0} (more : List ℕ) (s t : Draft) (order : Order) (room : ℕ) (r : Result (Unit {0}) E)
    → s ≡ record { bytes = []; order = order; room = room } → 512 ≤ room → length more ≤ 100 → Adds more s t r → IsOk r
written_whole more s t order room (Ok u) e fits short a = refl
written_whole more s t order room (Err f) e fits short a =
    absurd (omega (arith, a.refused.1, ap (λ (d : Draft). d.room) e, ap (λ (d : Draft). length d.bytes) e))

pub written_long : {E : Type 0} (more : List ℕ) (s t : Draft) (u : Unit {0}) (r : Result (Unit {0}) E) → r ≡ Ok u
    → 12 ≤ length more → Adds more s t r → 12 ≤ length t.bytes
written_long more s t u (Ok v) e long a = omega (arith, ap (length {A = ℕ}) a.done.0, length-append s.bytes more)
written_long more s t u (Err f) e long a = absurd cc

pub not_refused : {T E : Type 0} (r : Result T E) (e : E) → IsOk r → r ≡ Err e → ⊥
not_refused (Ok x) e whole refused = cc
not_refused (Err f) e whole refused = cc whole
