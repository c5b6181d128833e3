-- What each call comes to can be written, and what it leaves.
use Rattle.std.proofs.Common.{Bool, true, false, cond, List, refl, sym, subst, arith}
use Rattle.std.specs.List.{list_any}
use Rattle.td_cdr.specs.Marks.{Marks}
use Rattle.td_cdr.specs.Sound.{ulong}
use Rattle.td_cdr.specs.Writing.{Draft}
use Rattle.td_iter.specs.Desks.{item_of}
use Rattle.td_lookup.specs.Scenes.{Scene}
use Rattle.td_lookup.specs.NoMemory.{AnswersNoMemory, gave_in, is_search, items_of, no_memory_outcome}
use Rattle.td_objects.specs.Interfaces.{is_a}
use Rattle.td_ops.specs.Answers.{AdmitsOutcome}
use Rattle.td_ops.specs.Called.{operation_in}
use Rattle.td_ops.specs.Calls.{AdmitsCall}
use Rattle.td_ops.specs.Operations.{row}
use Rattle.td_ops.specs.declared.call.Call.{Call as Asked}
use Rattle.td_ops.specs.declared.call.Call.TheVariants as call
use Rattle.td_ops.specs.declared.operation.Operation.{Operation}
use Rattle.td_ops.specs.declared.outcome.Outcome.{Outcome}
use Rattle.td_ops.specs.declared.outcome.Outcome.TheVariants.{Done, User, System}
use Rattle.td_register.specs.declared.history.Accepted.{Accepted}
use Rattle.td_servant.specs.declared.entry.Entry.{Entry}
use Rattle.td_servant.specs.declared.judging.Judged.{Judged}
use Rattle.td_servant.specs.declared.judging.Judged.TheVariants.{Call, Refused}
use Rattle.td_servant.specs.declared.objects.Object.{Object}
use Rattle.td_dispatch.specs.Requests.{OutcomeOfRequest, number_in}
use Rattle.td_trader.specs.Worlds.{name_at}
use Rattle.td_trader.proofs.ReadAdmitted.{read_admitted}
use Rattle.td_trader_laws.proofs.WritingWorlds.{worlds-change}
use Rattle.td_trader_laws.specs.WritableWorlds.{IsWritableWorld, OthersAreAdmitted}
use Rattle.td_session_runs_laws.proofs.Desks.{left-writes}
use Rattle.td_session_runs_laws.proofs.Iterated.{call-writes}
use Rattle.td_session_runs_laws.proofs.Judgements.{FitsCall}
use Rattle.td_session_runs_laws.proofs.Linked.{link-writes}
use Rattle.td_session_runs_laws.proofs.Looked.{look-writes}
use Rattle.td_session_runs_laws.proofs.Querying.{query-writes}
use Rattle.td_session_runs_laws.proofs.Read.{read-look, read-names, read-query}
use Rattle.td_servant.proofs.Admitted.{read_link}
use Rattle.td_session_runs_laws.proofs.Resolved.{name-writes}
use Rattle.td_session_runs_laws.proofs.Worlds.{goes-writes}
use Rattle.td_session_runs_laws.specs.Spelled.{AdmitsAnswer, AdmitsShaped}
use Rattle.td_session_runs_laws.specs.Writable.{IsWritableDesk, IsWritableScene}
use Rattle.td_walk.specs.Peering.{AdmitsGifts}
use Rattle.td_walk.specs.declared.trace.Address.{Address}

-- an outcome of an operation has the shape of its result
pub shaped : (operation : Operation) (o : Outcome) → AdmitsOutcome operation o
    → AdmitsShaped (row operation).result o
shaped operation (Done r) h = h
shaped operation (User e) h = h
shaped operation (System kind minor completion) h = h

-- ---- memory that was wanted

small-completion : (b : Bool) → ulong.format.admits (cond b 2 1)
small-completion true = omega arith
small-completion false = omega arith

no_memory_outcome-writes : (j : Judged) (e : Entry) → AdmitsAnswer j (no_memory_outcome e)
no_memory_outcome-writes (Call x c) e = (omega arith, small-completion (list_any is_search (items_of e)))
no_memory_outcome-writes (Refused r) e = (omega arith, small-completion (list_any is_search (items_of e)))

pub no_memory_answer-writes : (others : List Accepted → Type 0) (later : Marks → Marks → Type 0) (home : Address) (j : Judged)
    (s t : Scene) (o : Outcome) (e : Entry) → OthersAreAdmitted others → IsWritableScene s
    → AnswersNoMemory others later home j s o e t
    → AdmitsAnswer j o × IsWritableScene t
no_memory_answer-writes others later home j s t o e admitted w u = (
  subst (AdmitsAnswer j) (sym u.outcome) (no_memory_outcome-writes j e),
  record {
    world = goes-writes others later s.world t.world admitted w.world u.goes;
    desk = subst IsWritableDesk (sym u.desk) w.desk;
  },
)

-- ---- calls

module _ (others : List Accepted → Type 0) (later : Marks → Marks → Type 0) (home : Address) (x : Object) where
  pub calls-write : (c : Asked) (draft : Draft) (s t : Scene) (o : Outcome) (e : Entry) → OthersAreAdmitted others
      → IsWritableScene s → AdmitsCall c → FitsCall s.world s.desk x c
      → OutcomeOfRequest others later home (Call x c) draft s o e t → AdmitsGifts (gave_in e)
      → AdmitsAnswer (Call x c) o × IsWritableScene t
  calls-write (call.Change c) draft s t o e admitted w a fits r g =
      let changed =
      worlds-change others later admitted s.world t.world x.trader c o w.world (read_admitted c a) r.0.changes in (
        shaped (operation_in (call.Change c)) o changed.0,
        record { world = changed.1; desk = subst (λ (y : Scene). IsWritableDesk y.desk) (sym r.1) w.desk },
      )
  calls-write (call.Look l) draft s t o e admitted w a fits r g =
      let looked =
      look-writes others later home s.world s.desk x.trader l draft o e t.world t.desk admitted w.world w.desk
      (read-look l a) r.0 in
      (shaped (operation_in (call.Look l)) o looked.0, record { world = looked.1; desk = looked.2 })
  calls-write (call.AddLink l) draft s t o e admitted w a fits r g =
      let linked =
      link-writes others later home s.world x.trader l s.peers t.peers o e t.world admitted w.world (read_link l a) g
      r.0 in (
        shaped (operation_in (call.AddLink l)) o linked.0,
        record { world = linked.1; desk = subst IsWritableDesk (sym r.1) w.desk },
      )
  calls-write (call.Iter i) draft s t o e admitted w a fits r g =
      let name = name_at s.world x.trader in
      let number = number_in x.kind in
      let content =
      call-writes x name number s.desk draft (item_of name number s.desk) i o t.desk w.desk
      (left-writes name number s.desk w.desk) fits r.0.is_done in (
        content.0,
        record { world = subst (λ (y : Scene). IsWritableWorld y.world) (sym r.1) w.world; desk = content.1 },
      )
  calls-write (call.IsA id) draft s t o e admitted w a fits r g = (
    subst (AdmitsAnswer (Call x (call.IsA id))) (sym r.0) (refl, (is_a x.interface id, refl, tt)),
    subst IsWritableScene (sym r.2) w,
  )
  calls-write call.NonExistent draft s t o e admitted w a fits r g = (
    subst (AdmitsAnswer (Call x call.NonExistent)) (sym r.0) (refl, (false, refl, tt)),
    subst IsWritableScene (sym r.2) w,
  )
  calls-write (call.Query q) draft s t o e admitted w a fits r g =
      let content = query-writes others later home s t x.trader q draft o e admitted w (read-query q a) r g in
      (shaped (operation_in (call.Query q)) o content.0, content.1)
  calls-write (call.Resolve names) draft s t o e admitted w a fits r g =
      let content = name-writes others later home s x.trader names o e t admitted w (read-names names a) g r in
      (shaped (operation_in (call.Resolve names)) o content.0, content.1)
