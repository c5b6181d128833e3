-- Traders as they are seen whose values can be written stay such, whatever is done.
use Rattle.std.proofs.Common.{ℕ, List, sym, subst}
use Rattle.td_cdr.specs.Marks.{Marks}
use Rattle.td_fed.specs.Trails.{Goes, began, stays, watched}
use Rattle.td_ops.specs.declared.call.Query.{Query}
use Rattle.td_register.specs.declared.history.Accepted.{Accepted}
use Rattle.td_trader.specs.Beginning.{after_begin as marks_after}
use Rattle.td_trader.specs.Worlds.{BeginsQuery, Meanwhile, View, after_begin, after_others, store_seen}
use Rattle.td_trader.specs.declared.begin.Begin.{Begin}
use Rattle.td_trader_laws.proofs.WritingWorlds.{worlds-watch}
use Rattle.td_trader_laws.proofs.Written.{after-written}
use Rattle.td_trader_laws.specs.Writable.{IsWritableStore}
use Rattle.td_trader.specs.Admitted.{AdmitsChange, AreAdmitted}
use Rattle.td_trader_laws.specs.WritableWorlds.{IsWritableView, IsWritableWorld, OthersAreAdmitted}
use Rattle.td_session_runs_laws.proofs.Parts.{each-at, each-set}
use Rattle.td_types.proofs.Sequences.{each-append}

-- the store that a trader is seen to have
pub store-writes : (v : View) → IsWritableView v → IsWritableStore (store_seen v)
store-writes v h = after-written v.opening v.history h.opening h.changes

others-write : (v : View) (between : List Accepted) (marks : Marks) → IsWritableView v → AreAdmitted between
    → IsWritableView (after_others v between marks)
others-write v between marks h b = record {
  opening = h.opening;
  changes = each-append (λ e. AdmitsChange e.change) v.history between h.changes b;
}

module _ (others : List Accepted → Type 0) (later : Marks → Marks → Type 0) where
  -- a trader as it is seen once a call has come to it
  pub seen-writes : (w : List View) (k : ℕ) (seen : View) → OthersAreAdmitted others → IsWritableWorld w
      → Meanwhile others later w k seen → IsWritableView seen
  seen-writes w k seen admitted h m =
      subst IsWritableView (sym m.seen_is)
      (others-write m.view m.between m.marks (each-at IsWritableView w k m.view h m.is)
      (admitted m.between m.may))

  -- a query that begins, whatever it is
  pub begun-writes : (w u : List View) (k : ℕ) (q : Query) (b : Begin) → OthersAreAdmitted others
      → IsWritableWorld w → BeginsQuery others later w k q b u → IsWritableWorld u
  begun-writes w u k q b admitted h r =
      let seen = seen-writes w k r.seen admitted h r.meanwhile in
      let marks = marks_after (store_seen r.seen) r.seen.marks q b in
      let begun : IsWritableView (after_begin r.seen marks) =
      record { opening = seen.opening; changes = seen.changes } in
      subst IsWritableWorld (sym r.world) (each-set IsWritableView w k (after_begin r.seen marks) h begun)

-- queries that began, and what others did
pub goes-writes : (others : List Accepted → Type 0) (later : Marks → Marks → Type 0) (w u : List View)
    → OthersAreAdmitted others → IsWritableWorld w → Goes others later w u → IsWritableWorld u
goes-writes others later w u admitted h stays = h
goes-writes others later w u admitted h (began {u = m} k q b begun rest) =
    goes-writes others later m u admitted (begun-writes others later w m k q b admitted h begun) rest
goes-writes others later w u admitted h (watched {u = m} k seen rest) =
    goes-writes others later m u admitted (worlds-watch others later admitted w m k h seen) rest
