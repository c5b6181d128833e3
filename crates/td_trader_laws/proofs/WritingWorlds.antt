-- Groups of traders all of whose values can be written.
use Rattle.std.proofs.Common.{◌≡◌, ℕ, zero, suc, List, [], ◌∷◌, length, slice_get, slice_set, Some, sym}
use Rattle.std.proofs.Common.{subst}
use Rattle.std.specs.List.{AllByRecursion}
use Rattle.td_cdr.specs.Marks.{Marks}
use Rattle.td_ops.specs.Answers.{AdmitsOutcome}
use Rattle.td_ops.specs.Called.{change_operation, look_operation}
use Rattle.td_ops.specs.declared.call.Change.{Change}
use Rattle.td_ops.specs.declared.outcome.Outcome.{Outcome}
use Rattle.td_ops.specs.declared.outcome.Outcome.TheVariants.{Done, User, System}
use Rattle.td_trader_laws.specs.Writable.{IsWritableStore}
use Rattle.td_trader.specs.Admitted.{AdmitsChange, AreAdmitted}
use Rattle.td_trader_laws.proofs.AdmittingLooks.{looks}
use Rattle.td_trader_laws.proofs.Written.{after-written, counted-changes}
use Rattle.td_types.proofs.Sequences.{each-append}
use Rattle.td_register.specs.Entries.{entry}
use Rattle.td_register.specs.declared.history.Accepted.{Accepted}
use Rattle.td_trader.specs.Beginning.{after_begin as marks_after}
use Rattle.td_trader.specs.Solos.{no_changes}
use Rattle.td_trader.specs.Worlds.{Meanwhile, View, after_begin, after_others}
use Rattle.td_trader.specs.Worlds.{after_own, store_seen, with_view}
use Rattle.td_trader_laws.specs.WritableWorlds.{AdmitsRefused, IsWritableView, IsWritableWorld, OthersAreAdmitted}
use Rattle.td_trader_laws.specs.WritableWorlds.{WorldsBeginWritably, WorldsChangeWritably, WorldsLookWritably}
use Rattle.td_trader_laws.specs.WritableWorlds.{WorldsWatchWritably}
use Rattle.td_trader_laws.proofs.Writing.{push}
use Rattle.td_trader_laws.proofs.WritingQueries.{begun-so}

-- ---- one of a list

each-at : {X : Type 0} (P : X → Type 0) (xs : List X) (k : ℕ) (x : X) → AllByRecursion P xs → slice_get xs k ≡ Some x
    → P x
each-at P [] k x h e = absurd (let bad : ⊥ = cc in bad)
each-at P (y ∷ xs) zero x h e = let same : y ≡ x = cc in subst P same h.0
each-at P (y ∷ xs) (suc k) x h e = each-at P xs k x h.1 e

each-set : {X : Type 0} (P : X → Type 0) (xs : List X) (k : ℕ) (x : X) → AllByRecursion P xs → P x
    → AllByRecursion P (slice_set xs k x)
each-set P [] k x h p = tt
each-set P (y ∷ xs) zero x h p = (p, h.1)
each-set P (y ∷ xs) (suc k) x h p = (h.0, each-set P xs k x h.1 p)

put : (w u : List View) (k : ℕ) (v : View) → IsWritableWorld w → IsWritableView v → u ≡ with_view w k v
    → IsWritableWorld u
put w u k v h p e = subst IsWritableWorld (sym e) (each-set IsWritableView w k v h p)

-- ---- one trader

store-written : (v : View) → IsWritableView v → IsWritableStore (store_seen v)
store-written v h = after-written v.opening v.history h.opening h.changes

others-written : (v : View) (between : List Accepted) (marks : Marks) → IsWritableView v → AreAdmitted between
    → IsWritableView (after_others v between marks)
others-written v between marks h b = record {
  opening = h.opening;
  changes = each-append (λ e. AdmitsChange e.change) v.history between h.changes b;
}

own-written : (v : View) (c : Change) (o : Outcome) → IsWritableView v → AdmitsChange c
    → IsWritableView (after_own v c o)
own-written v c (Done content) h a = record { opening = h.opening; changes = push v.history (entry c content) h.changes a }
own-written v c (User e) h a = h
own-written v c (System kind minor completion) h a = h

marks-written : (v : View) (marks : Marks) → IsWritableView v → IsWritableView (after_begin v marks)
marks-written v marks h = record { opening = h.opening; changes = h.changes }

-- ---- the calls

module _ (others : List Accepted → Type 0) (later : Marks → Marks → Type 0) (admitted : OthersAreAdmitted others)
  where
    seen-written : (w : List View) (k : ℕ) (seen : View) → IsWritableWorld w → Meanwhile others later w k seen
        → IsWritableView seen
    seen-written w k seen h m =
        subst IsWritableView (sym m.seen_is)
        (others-written m.view m.between m.marks (each-at IsWritableView w k m.view h m.is)
        (admitted m.between m.may))

    pub worlds-change : WorldsChangeWritably others later
    worlds-change w u k c o h a r =
        let seen = seen-written w k r.seen h r.meanwhile in
        let is = counted-changes r.seen.bounds (length r.seen.history) (store_seen r.seen) c
        (store-written r.seen seen) a in (
          subst (AdmitsOutcome (change_operation c)) (sym r.outcome) is.outcome,
          put w u k (after_own r.seen c o) h (own-written r.seen c o seen a) r.world,
        )

    pub worlds-look : WorldsLookWritably others later
    worlds-look w u k l a h p r =
        let seen = seen-written w k r.seen h r.meanwhile in (
          subst (λ (x : Outcome × ℕ). AdmitsOutcome (look_operation l) x.0) (sym r.answer)
              (looks (store_seen r.seen) l (store-written r.seen seen) p),
          put w u k r.seen h seen r.world,
        )

    pub worlds-begin : WorldsBeginWritably others later
    worlds-begin w u k q b h p r =
        let seen = seen-written w k r.seen h r.meanwhile in
        let marks = marks_after (store_seen r.seen) r.seen.marks q b in (
          subst AdmitsRefused (sym r.begin)
              (begun-so (store_seen r.seen) (length r.seen.history) r.seen.marks q r.seen.bounds p),
          put w u k (after_begin r.seen marks) h (marks-written r.seen marks seen) r.world,
        )

    pub worlds-watch : WorldsWatchWritably others later
    worlds-watch w u k h r =
        put w u k r.seen h (seen-written w k r.seen h r.meanwhile) r.world

pub solo-admitted : OthersAreAdmitted no_changes
solo-admitted between none = subst AreAdmitted (sym none) tt
