-- Worked examples: what a journal shows of an accepted change, of a refused one and of queries, and a run of two
-- messages.
use Rattle.std.specs.Prelude.{◌≡◌, ℕ, List, [], ◌∷◌, codes, None}
use Rattle.td_cdr.specs.Marks.{Marks}
use Rattle.td_fed.specs.Trails.{NeverFalls}
use Rattle.td_lookup.specs.Scenes.{Scene}
use Rattle.td_objects.specs.declared.interface.Interface.TheVariants as interface
use Rattle.td_ops.specs.declared.call.Call.TheVariants as call
use Rattle.td_ops.specs.declared.call.Change.TheVariants as change
use Rattle.td_ops.specs.declared.call.Query.{Query}
use Rattle.td_ops.specs.declared.outcome.Outcome.TheVariants.{Done, System}
use Rattle.td_ops.specs.declared.outcome.Reply.TheVariants.{Nothing}
use Rattle.td_ops.specs.declared.outcome.SystemKind.TheVariants.{ImpLimit, NoMemory}
use Rattle.td_register.specs.declared.history.Accepted.{Accepted}
use Rattle.td_servant.specs.declared.entry.Entry.TheVariants.{Point, Walk}
use Rattle.td_servant.specs.declared.judging.Judged.TheVariants.{Call}
use Rattle.td_servant.specs.declared.objects.Object.{Object}
use Rattle.td_stream.specs.Exchanges.{output}
use Rattle.td_session_runs.specs.Journals.{all_marks_in, all_places_in, all_served_at}
use Rattle.td_session_runs.specs.Turns.{ServedRequest, Run, Turn, exchanges_of}
use Rattle.td_value.specs.declared.key.Kind.TheVariants as kind
use Rattle.td_walk.specs.declared.trace.Address.{Address}
use Rattle.td_walk.specs.declared.trace.TraceItem.TheVariants as item

-- ---- journals

-- the first trader's repository of types, and its Lookup
abbrev pub repository : Object
repository = record { trader = 0; kind = kind.Types; interface = interface.ServiceTypeRepository }

abbrev pub lookup : Object
lookup = record { trader = 0; kind = kind.Lookup; interface = interface.Lookup }

-- a type is masked, as the fourth change of the first trader
abbrev pub accepted_request : ServedRequest
accepted_request = record {
  judged = Call repository (call.Change (change.MaskType (codes "T")));
  outcome = Done Nothing;
  entry = Point 0 3;
}

-- another change is refused then
abbrev pub refused_request : ServedRequest
refused_request = record {
  judged = Call repository (call.Change (change.MaskType (codes "U")));
  outcome = System ImpLimit 0 1;
  entry = Point 0 4;
}

-- the first trader is searched, the second is found to be searched already, and the first again
abbrev pub query_request : Query → ServedRequest
query_request q = record {
  judged = Call lookup (call.Query q);
  outcome = Done Nothing;
  entry = Walk (record {
    items = item.Search 0 4 7 ∷ item.Repeat 1 9 2 ∷ item.Search 0 4 8 ∷ item.Leave ∷ item.Leave
        ∷ [];
  });
}

-- memory runs out behind the first search
abbrev pub no_memory_with : Query → ServedRequest
no_memory_with q = record {
  judged = Call lookup (call.Query q);
  outcome = System NoMemory 0 2;
  entry = Walk (record { items = item.Search 0 4 9 ∷ [] });
}

pub record WorkedJournal (q : Query) : Type 0 where
  pub first_points : all_served_at 0 (accepted_request ∷ refused_request ∷ query_request q ∷ []) ≡ 3
      ∷ 4 ∷ 4 ∷ 4 ∷ []
  pub second_points : all_served_at 1 (accepted_request ∷ refused_request ∷ query_request q ∷ [])
      ≡ 9 ∷ []
  pub no_memory_points : all_served_at 0 (accepted_request ∷ no_memory_with q ∷ []) ≡ 3 ∷ 4 ∷ []
  pub places : all_places_in 0 (accepted_request ∷ refused_request ∷ query_request q ∷ []) ≡ 3 ∷ []
  pub marks : all_marks_in 0 (accepted_request ∷ refused_request ∷ query_request q ∷ []) ≡ 7 ∷ 8
      ∷ []
  pub rise : NeverFalls 3 (3 ∷ 4 ∷ 4 ∷ 4 ∷ []) 4
  pub fall : NeverFalls 3 (4 ∷ 3 ∷ []) 4 → ⊥

-- ---- a run

-- a CancelRequest of the request 5, big-endian
abbrev pub cancel_message : List ℕ
cancel_message = 71 ∷ 73 ∷ 79 ∷ 80 ∷ 1 ∷ 0 ∷ 0 ∷ 2 ∷ 0 ∷ 0 ∷ 0 ∷ 4 ∷ 0 ∷ 0 ∷ 0 ∷ 5 ∷ []

-- a LocateRequest with the number 6, for the key `x`, which is no object's
abbrev pub locate_message : List ℕ
locate_message =
    71 ∷ 73 ∷ 79 ∷ 80 ∷ 1 ∷ 0 ∷ 0 ∷ 3 ∷ 0 ∷ 0 ∷ 0 ∷ 9 ∷ 0 ∷ 0 ∷ 0 ∷ 6 ∷ 0 ∷ 0 ∷ 0 ∷ 1 ∷ 120 ∷ []

-- its LocateReply: UNKNOWN_OBJECT
abbrev pub unknown_reply : List ℕ
unknown_reply = 71 ∷ 73 ∷ 79 ∷ 80 ∷ 1 ∷ 0 ∷ 0 ∷ 4 ∷ 0 ∷ 0 ∷ 0 ∷ 8 ∷ 0 ∷ 0 ∷ 0 ∷ 6 ∷ 0 ∷ 0 ∷ 0 ∷ 0
    ∷ []

abbrev pub two_turns : Scene → List Turn
two_turns s =
    record { message = cancel_message; request = None; reply = []; after = s }
    ∷ record { message = locate_message; request = None; reply = unknown_reply; after = s }
    ∷ []

-- the first is ignored, the second is answered, and everything stays as it was
pub record WorkedRun (others : List Accepted → Type 0) (later : Marks → Marks → Type 0)
    (home : Address) (s : Scene) : Type 0 where
  pub run : Run others later home s (two_turns s) s
  pub content : output (exchanges_of (two_turns s)) ≡ unknown_reply
