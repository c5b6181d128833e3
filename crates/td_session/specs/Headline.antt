-- What holds of the turns of a session, whatever others do to its traders meanwhile.
use Rattle.std.specs.Prelude.{◌≡◌, ℕ, true, false, List, [], ◌∷◌, ◌++◌, length, Some}
use Rattle.td_cdr.specs.Marks.{Marks}
use Rattle.td_cdr.specs.Writing.{Draft}
use Rattle.td_fed.specs.Trails.{DrawsOn, NeverFalls, own_at, own_marks_at}
use Rattle.td_lookup.specs.Querying.{QueryComes}
use Rattle.td_lookup.specs.Scenes.{Scene}
use Rattle.td_lookup.specs.Answering.{is_no_memory}
use Rattle.td_lookup.specs.NoMemory.{PeersGive, gave_in}
use Rattle.td_ops.specs.declared.call.Call.TheVariants as call
use Rattle.td_ops.specs.declared.call.Query.{Query}
use Rattle.td_register.specs.declared.history.Accepted.{Accepted}
use Rattle.td_servant.specs.declared.judging.Judged.TheVariants.{Call}
use Rattle.td_servant.specs.declared.objects.Object.{Object}
use Rattle.td_trader.specs.Worlds.{history_at}
use Rattle.td_session_runs.specs.Journals.{all_gave, all_marks_in, all_places_in, all_served_at, is_accepted}
use Rattle.td_session_runs.specs.Journals.{is_refusal, marks_in}
use Rattle.td_session_runs.specs.Laws.{KeepsIterators, KeepsAll, Stands, StaysLegal}
use Rattle.td_session_runs.specs.Turns.{ServedRequest, Turn, noted_of}
use Rattle.td_walk.specs.declared.trace.Address.{Address}

-- this holds of each turn, where the one before has left everything
abbrev pub EachTurn : (Scene → Turn → Type 0) → Scene → List Turn → Type 0
EachTurn P s [] = Unit {0}
EachTurn P s (t ∷ ts) = P s t × EachTurn P t.after ts

module _ (others : List Accepted → Type 0) (later : Marks → Marks → Type 0) (home : Address) where
  -- what holds of the Request of one turn
  pub record OfRequest (s : Scene) (t : Turn) : Type 0 where
    -- no answer of a peer is invented, and each that its entry shows as failed is a fault: the count rose
    pub peers : (n : ServedRequest) → t.request ≡ Some n
        → PeersGive s.peers (gave_in n.entry) t.after.peers
    -- a refusal with another exception than NO_MEMORY changes nothing
    pub refusal : (n : ServedRequest) → t.request ≡ Some n → is_refusal n.outcome ≡ true
        → KeepsAll others later s t.after
    -- NO_MEMORY changes nothing, but that a query may have made the marks that its trace shows
    pub no_memory : (n : ServedRequest) → t.request ≡ Some n → is_no_memory n.outcome ≡ true
        → KeepsIterators others later s (λ k. marks_in k n.entry) t.after
    -- a query that is answered otherwise is answered with what a walk from its trader on comes to, which is noted
    pub walk : (n : ServedRequest) (x : Object) (q : Query) → t.request ≡ Some n
        → n.judged ≡ Call x (call.Query q) → is_no_memory n.outcome ≡ false
        → (draft : Draft) × QueryComes others later home s x.trader q draft n.outcome n.entry
        t.after

  -- the headline, sentence by sentence
  pub record Headline (s : Scene) (turns : List Turn) (u : Scene) : Type 0 where
    -- The points at one trader never fall. None is below how much of its history was seen before the session, and none
    -- above how much is seen at its end.
    pub points : (k : ℕ)
        → NeverFalls (length (history_at s.world k)) (all_served_at k (noted_of turns))
        (length (history_at u.world k))
    -- the session's own changes are exactly those of its Requests that were accepted
    pub places : (k : ℕ) → own_at u.world k ≡ own_at s.world k ++ all_places_in k (noted_of turns)
    -- each of them is the entry of its trader's history at its point, and later points of that trader are above it
    pub accepted : (before rest : List ServedRequest) (n : ServedRequest) → noted_of turns ≡ before
        ++ n ∷ rest
        → is_accepted n ≡ true → Stands u.world n rest
    -- the session's own marks are exactly those of the searches in its traces
    pub marks : (k : ℕ) → own_marks_at u.world k ≡ own_marks_at s.world k
        ++ all_marks_in k (noted_of turns)
    -- what is seen of the traders grows, and stays legal
    pub legal : StaysLegal s.world u.world
    -- no answer of a peer is invented, and each that is shown as failed is a fault: the count rose
    pub peers : PeersGive s.peers (all_gave (noted_of turns)) u.peers
    -- the random words that are drawn are the next ones
    pub words : DrawsOn s.words u.words
    -- a refusal changes nothing, and a query is answered with what a walk comes to
    pub requests : EachTurn OfRequest s turns
