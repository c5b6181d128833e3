-- The log of a network in which each trader is asked in order, and whose innermost call always goes on.
use Rattle.std.specs.Prelude.{◌≡◌, ℕ, zero, suc, ◌+◌, false, true, List, [], ◌∷◌, ◌++◌, codes, decimal, length}
use Rattle.std.specs.Prelude.{map, min, Option, None, Some}
use Rattle.hex.specs.Hex.{encode_lower}
use Rattle.td_cdr.specs.Lawful.{AreOctets}
use Rattle.td_cdr.specs.Names.{trader_name}
use Rattle.td_cdr.specs.declared.order.Order.TheVariants.{Big}
use Rattle.td_drill.specs.Drills.{drill_query}
use Rattle.td_giop.specs.Written.{request_start, seal_size}
use Rattle.td_ior.specs.Keys.{written_key}
use Rattle.td_iter.specs.Batches.{IsBatch}
use Rattle.td_iter.specs.Heads.{offers_found}
use Rattle.td_log.specs.declared.message.ReplyForm.{ReplyForm}
use Rattle.td_log.specs.declared.message.Version.TheVariants.{V1_0}
use Rattle.td_lookup.specs.Choosing.{chosen}
use Rattle.td_lookup.specs.Querying.{first_offers}
use Rattle.td_net.specs.Worlds.{World, Becomes, fault_of, start, state_at, step_of, visit_at}
use Rattle.td_net.specs.declared.call.Call.{Call}
use Rattle.td_net.specs.declared.event.CallState.{CallState}
use Rattle.td_net.specs.declared.event.CallState.TheVariants as state
use Rattle.td_net.specs.declared.event.Event.{Event}
use Rattle.td_net.specs.declared.event.Event.TheVariants as event
use Rattle.td_objects.specs.References.{offer_iterator}
use Rattle.td_ops.specs.Calls.{call_piece}
use Rattle.td_ops.specs.declared.call.Call.TheVariants as call
use Rattle.td_ops.specs.declared.outcome.Outcome.{Outcome}
use Rattle.td_trader.specs.PlainTraders.{PlainTrader}
use Rattle.td_value.specs.declared.key.Kind.TheVariants.{Lookup}
use Rattle.td_value.specs.declared.key.ObjectKey.{ObjectKey}
use Rattle.td_walk.specs.declared.trace.Address.{Address}
use Rattle.td_walk.specs.declared.trace.Visit.{Visit}
use Rattle.td_walk.specs.declared.trace.Visit.TheVariants as visit
use Rattle.td_audit.specs.Replies.{reply_head, spelled_reply}

-- ---- the messages

-- each Request has the id 1, and is of GIOP 1.0 and in big order
abbrev pub form : ReplyForm
form = record { order = Big; version = V1_0; id = 1 }

-- the Request that asks the Lookup of the trader of this name
abbrev pub request_to : (name : List ℕ) → List ℕ
request_to name =
    let key : ObjectKey = record { trader = name; kind = Lookup } in
    let head : List ℕ = request_start Big 0 1 true (written_key key) (codes "query") in
    seal_size Big (head ++ call_piece (call.Query drill_query) Big (length head))

-- What a query is answered with whose visit came to this, as a session of its own answers it: the reference is that of
-- the session's first iterator.
abbrev pub IsOutcomeOfVisit : Address → (name : List ℕ) → Visit → Outcome → Type 0
IsOutcomeOfVisit home name (visit.Refused r) o = o ≡ r
IsOutcomeOfVisit home name (visit.Answered a max_list) o =
    (count : ℕ)
    × IsBatch (offers_found (offer_iterator home name 1) a.limits)
    (map (chosen drill_query.desired) a.offers) (reply_head form)
    (min drill_query.how_many max_list)
    count
    × (o ≡ first_offers home name 1 a.limits (map (chosen drill_query.desired) a.offers) count)

-- ---- the lines

abbrev pub ask_line : (name : List ℕ) → List ℕ
ask_line name = codes "ask " ++ name ++ codes " " ++ encode_lower (request_to name)

abbrev pub deliver_line : (c : ℕ) → List ℕ
deliver_line c = codes "deliver " ++ decimal c

abbrev pub no_value_line : (c : ℕ) → List ℕ
no_value_line c = codes "value " ++ decimal c ++ codes " -"

abbrev pub answer_line : (c : ℕ) → List ℕ
answer_line c = codes "answer " ++ decimal c

abbrev pub reply_line : (c : ℕ) → Outcome → List ℕ
reply_line c o = codes "reply " ++ decimal c ++ codes " " ++ encode_lower (spelled_reply form o)

-- each line with its line feed
abbrev pub text_of_lines : List (List ℕ) → List ℕ
text_of_lines [] = []
text_of_lines (line ∷ lines) = line ++ 10 ∷ text_of_lines lines

-- ---- the events

-- the call that a call waits for, and so on, by at most so many steps
abbrev pub inward : (go : ℕ → ℕ) → (c : ℕ) → Option CallState → ℕ
inward go c (Some (state.Waiting d)) = go d
inward go c other = c

abbrev pub innermost_call : (steps : ℕ) → List Call → (c : ℕ) → ℕ
innermost_call zero calls c = c
innermost_call (suc n) calls c = inward (innermost_call n calls) c (state_at calls c)

-- what comes next for a call that waits for no other
pub record Next : Type 0 where
  pub event : Event
  pub line : List ℕ

abbrev pub next_in : (c : ℕ) → Option CallState → Option Next
next_in c (Some state.Sent) = Some (record { event = event.Deliver c; line = deliver_line c })
next_in c (Some state.Evaluating) = Some
    (record { event = event.Value c None; line = no_value_line c })
next_in c (Some state.Ended) = Some (record { event = event.Answer c; line = answer_line c })
next_in c other = None

-- the event is accepted
pub record AcceptsEvent (w : World) (e : Event) (u : World) : Type 0 where
  pub accepted : fault_of w e ≡ None
  pub becomes : Becomes w (step_of w e) u

-- The calls of an Ask go on, the innermost first, until its own has ended.
pub data RunsCalls (root : ℕ) : World → List (List ℕ) → Visit → World → Type 0 where
  ended : {w : World} {v : Visit} → visit_at w.calls root ≡ Some v → RunsCalls root w [] v w
  goes : {w u x : World} {lines : List (List ℕ)} {v : Visit} (next : Next) → visit_at w.calls root
      ≡ None
      → next_in (innermost_call (length w.calls) w.calls root)
      (state_at w.calls (innermost_call (length w.calls) w.calls root))
      ≡ Some next
      → AcceptsEvent w next.event u → RunsCalls root u lines v x
      → RunsCalls root w (next.line ∷ lines) v x

-- The traders of these names, from the number n on, are asked one after the other: those that a key can name. The
-- messages of a log are octets.
pub data QueriesTraders (home : Address) : World → (n : ℕ) → (names : List (List ℕ)) → List (List ℕ)
    → World → Type 0 where
  none : {w : World} {n : ℕ} → QueriesTraders home w n [] [] w
  passes : {w y : World} {n : ℕ} {name : List ℕ} {names lines : List (List ℕ)} → trader_name name
      ≡ false → QueriesTraders home w (n + 1) names lines y → QueriesTraders home w n
      (name ∷ names) lines y
  more : {w u x y : World} {n : ℕ} {name : List ℕ} {names : List (List ℕ)}
      {lines others : List (List ℕ)} {v : Visit} (o : Outcome) → trader_name name ≡ true
      → AreOctets (request_to name) → AcceptsEvent w (event.Ask n drill_query) u
      → RunsCalls (length w.calls) u lines v x → IsOutcomeOfVisit home name v o
      → AreOctets (spelled_reply form o)
      → QueriesTraders home x (n + 1) names others y
      → QueriesTraders home w n (name ∷ names) (ask_line name ∷ lines
      ++ reply_line (length w.calls) o
      ∷ others) y

-- This is the log of a network of these traders.
pub record IsLog (traders : List PlainTrader) (home : Address) (log : List ℕ) : Type 0 where
  pub lines : List (List ℕ)
  pub later : World
  pub asked : QueriesTraders home (start traders home []) 0
      (map (λ (t : PlainTrader). t.name) traders)
      lines later
  pub content : log ≡ text_of_lines lines
