-- How queries begin at traders whose values can be written.
use Rattle.std.proofs.Common.{ℕ, ◌^◌, ◌<◌, List, length, min, filter}
use Rattle.std.proofs.Common.{Option, Some, None, unwrap_or, sym, subst, arith}
use Rattle.std.specs.List.{AllByRecursion}
use Rattle.td_cdr.specs.Marks.{Marks}
use Rattle.td_changes.specs.declared.bounds.Bounds.{Bounds}
use Rattle.td_fed.specs.Visiting.{BeginsVisit, start_of}
use Rattle.td_ops.specs.Answers.{AdmitsOutcome}
use Rattle.td_ops.specs.Parameters.{query}
use Rattle.td_ops.specs.declared.call.Query.{Query}
use Rattle.td_ops.specs.declared.operation.Operation.TheVariants as operation
use Rattle.td_policy.specs.Effective.{effective_of}
use Rattle.td_policy.specs.declared.stated.Stated.{Stated}
use Rattle.td_register.specs.Causes.{Cause}
use Rattle.td_register.specs.Stores.{Store}
use Rattle.td_register.specs.declared.history.Accepted.{Accepted}
use Rattle.td_store.specs.Candidates.{candidates, is_candidate}
use Rattle.td_store.specs.Stores.{IsOffer}
use Rattle.td_store.specs.declared.record.LinkRecord.{LinkRecord}
use Rattle.td_trader.specs.Beginning.{begin_along, begin_here, begin_of, begin_unless}
use Rattle.td_trader.specs.Beginning.{repeated_in}
use Rattle.td_trader.specs.Queries.{parts_of, path_link, refusal}
use Rattle.td_trader.specs.Serving.{local_of, path_of}
use Rattle.td_trader.specs.Worlds.{BeginsQuery, View, history_at, store_seen}
use Rattle.td_trader.specs.declared.begin.Begin.{Begin}
use Rattle.td_trader.specs.declared.begin.Begin.TheVariants as begin
use Rattle.td_trader_laws.proofs.WritingWorlds.{worlds-begin}
use Rattle.td_trader_laws.specs.Writable.{IsWritableStore}
use Rattle.td_trader_laws.specs.WritableWorlds.{AdmitsRefused, IsWritableWorld, OthersAreAdmitted}
use Rattle.td_types.proofs.Sequences.{each-filter}
use Rattle.td_query_walk.specs.Walks.{Start, Refused, Repeat, Search, Path}
use Rattle.td_session_runs_laws.proofs.Parts.{each-front}
use Rattle.td_session_runs_laws.proofs.WalkingAnswers.{IsWritableLocal}
use Rattle.td_session_runs_laws.proofs.Worlds.{begun-writes, seen-writes, store-writes}

-- ---- what a query is served with

candidates-written : (s : Store) (a : Stated) (asked : List ℕ) (count : ℕ) → IsWritableStore s
    → AllByRecursion IsOffer (candidates s.types.types s.attributes a asked count s.offers)
candidates-written s a asked count h =
    let test = is_candidate s.types.types s.attributes a asked in
    each-front IsOffer count (filter test s.offers) (each-filter IsOffer test s.offers h.store.offers)

lesser : (a b : ℕ) → b < 2 ^ 32 → min a b < 2 ^ 32
lesser a b h = omega (arith, h)

returned-few : (s : Store) (a : Stated) → IsWritableStore s
    → (effective_of a s.attributes).return_card < 2 ^ 32
returned-few s a h =
    lesser (unwrap_or a.return_card s.attributes.def_return_card) s.attributes.max_return_card h.numbers.max_return_card

-- what is served, where something is
abbrev pub BeginsWith : Begin → Type 0
BeginsWith (begin.Refused o) = Unit {0}
BeginsWith (begin.Repeat number) = Unit {0}
BeginsWith (begin.Search l) = IsWritableLocal l
BeginsWith (begin.Path l) = IsWritableLocal l

module _ (s : Store) (point : ℕ) (m : Marks) (q : Query) (h : IsWritableStore s) where
  here-writes : (found : Option ℕ) → BeginsWith (begin_here s point m q found)
  unfolding local_of
  here-writes (Some n) = tt
  here-writes None = record {
    candidates =
        candidates-written s (parts_of q).stated q.service_type
        (effective_of (parts_of q).stated s.attributes).search_card h;
    returned = returned-few s (parts_of q).stated h;
  }

  along-writes : (found : Option LinkRecord) → BeginsWith (begin_along s point m q found)
  unfolding path_of
  along-writes (Some link) = record { candidates = tt; returned = returned-few s (parts_of q).stated h }
  along-writes None = here-writes (repeated_in m (parts_of q).stated)

  unless-writes : (cause : Cause) → BeginsWith (begin_unless cause s point m q)
  unless-writes (Some f) = tt
  unless-writes None = along-writes (path_link s.links (parts_of q).stated)

  pub begin-writes : (bounds : Bounds) → BeginsWith (begin_of bounds s point m q)
  unfolding begin_of
  begin-writes bounds = unless-writes (refusal bounds m.count s q)

-- what a query that begins at one of the traders is served with
begun-with : (others : List Accepted → Type 0) (later : Marks → Marks → Type 0) (w u : List View) (k : ℕ) (q : Query)
    (b : Begin) → OthersAreAdmitted others → IsWritableWorld w → BeginsQuery others later w k q b u → BeginsWith b
begun-with others later w u k q b admitted h r =
    let seen = seen-writes others later w k r.seen admitted h r.meanwhile in
    subst BeginsWith (sym r.begin)
    (begin-writes (store_seen r.seen) (length r.seen.history) r.seen.marks q (store-writes r.seen seen) r.seen.bounds)

-- ---- as a walk has it

abbrev pub StartsWith : Start → Type 0
StartsWith (Refused point o) = Unit {0}
StartsWith (Repeat point mark) = Unit {0}
StartsWith (Search l) = IsWritableLocal l
StartsWith (Path l) = IsWritableLocal l

starts-with : (point : ℕ) (b : Begin) → BeginsWith b → StartsWith (start_of point b)
starts-with point (begin.Refused o) h = tt
starts-with point (begin.Repeat mark) h = tt
starts-with point (begin.Search l) h = h
starts-with point (begin.Path l) h = h

-- what is told where the query is refused
abbrev pub TellsRefused : Start → Type 0
TellsRefused (Refused point o) = AdmitsOutcome operation.Query o
TellsRefused (Repeat point mark) = Unit {0}
TellsRefused (Search l) = Unit {0}
TellsRefused (Path l) = Unit {0}

tells-refused : (point : ℕ) (b : Begin) → AdmitsRefused b → TellsRefused (start_of point b)
tells-refused point (begin.Refused o) h = h
tells-refused point (begin.Repeat mark) h = tt
tells-refused point (begin.Search l) h = tt
tells-refused point (begin.Path l) h = tt

module _ (others : List Accepted → Type 0) (later : Marks → Marks → Type 0) (admitted : OthersAreAdmitted others)
    (w u : List View) (k : ℕ) (q : Query) (start : Start) (h : IsWritableWorld w) where
  pub start-world : BeginsVisit others later w k q start u → IsWritableWorld u
  start-world b = begun-writes others later w u k q b.begin admitted h b.begun

  pub start-writes : BeginsVisit others later w k q start u → StartsWith start
  start-writes b =
      subst StartsWith (sym b.is)
      (starts-with (length (history_at u k)) b.begin (begun-with others later w u k q b.begin admitted h b.begun))

  pub start-refused : query.format.admits q → BeginsVisit others later w k q start u → TellsRefused start
  start-refused p b =
      let content = (worlds-begin others later admitted w u k q b.begin h p b.begun).0 in
      subst TellsRefused (sym b.is) (tells-refused (length (history_at u k)) b.begin content)
