-- The laws of runs, of the turns of one session.
use Rattle.std.proofs.Common.{List, [], ◌∷◌}
use Rattle.td_cdr.specs.Marks.{Marks}
use Rattle.td_lookup.specs.Scenes.{Scene}
use Rattle.td_register.specs.declared.history.Accepted.{Accepted}
use Rattle.td_session_runs.specs.Turns.{IsTurn, Run, Turn}
use Rattle.td_session_runs.proofs.Running.{accepted-stand, none-invented, own-accepted, own-searches, points-rise}
use Rattle.td_session_runs.proofs.Running.{peers-shown, queries-walk}
use Rattle.td_session_runs.proofs.Running.{refused-nothing, seen-legal, no_memory_outcome-nothing, words-drawn}
use Rattle.td_walk.specs.declared.trace.Address.{Address}
use Rattle.td_session.specs.Headline.{EachTurn, Headline, OfRequest}

module _ (others : List Accepted → Type 0) (later : Marks → Marks → Type 0) (home : Address) where
  of_turn : (s : Scene) (t : Turn) → IsTurn others later home s t → OfRequest others later home s t
  of_turn s t h = record {
    peers = λ n is. peers-shown others later home s t n h is;
    refusal = λ n is refused. refused-nothing others later home s t n h is refused;
    no_memory = λ n is wants. no_memory_outcome-nothing others later home s t n h is wants;
    walk = λ n x q is asks content. queries-walk others later home s t n x q h is asks content;
  }

  of_each : (s u : Scene) (ts : List Turn) → Run others later home s ts u
      → EachTurn (OfRequest others later home) s ts
  of_each s u [] run = tt
  of_each s u (t ∷ ts) run = (of_turn s t run.0, of_each t.after u ts run.1)

  pub headlined : (s u : Scene) (ts : List Turn) → Run others later home s ts u → Headline others later home s ts u
  headlined s u ts run = record {
    points = λ k. points-rise others later home s u ts run k;
    places = λ k. own-accepted others later home s u ts run k;
    accepted = λ before rest n e is. accepted-stand others later home s u ts run before rest n e is;
    marks = λ k. own-searches others later home s u ts run k;
    legal = seen-legal others later home s u ts run;
    peers = none-invented others later home s u ts run;
    words = words-drawn others later home s u ts run;
    requests = of_each s u ts run;
  }
