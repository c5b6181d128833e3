-- From one state of a servant to the next.
use Rattle.std.proofs.Common.{◌≡◌, ℕ, ◌+◌, ◌≤◌, cond, List, [], ◌∷◌, ◌++◌, Option, Some, None, refl, sym, ap, subst}
use Rattle.std.proofs.Common.{arith}
use Rattle.std.proofs.lemmas.List.Sums.{sum_by-cons}
use Rattle.td_stream.specs.declared.end.End.{End}
use Rattle.td_stream.specs.Exchanges.{MessageExchange, IsExchange, Run, requests}
use Rattle.td_stream.specs.Messages.{is_request}
use Rattle.td_stream.specs.Outbound.{Outbound}
use Rattle.td_stream.specs.Outside.{Outside}
use Rattle.td_stream.specs.Progress.{StreamState, stand, first_stand, outside_of, StreamMoves, Advances, StreamLeaves}
use Rattle.td_stream.specs.Progress.{Proceeds}
use Rattle.td_stream.specs.Streams.{StreamFinishes, Streams}
use Rattle.td_stream.proofs.Runs.{moves-then, ends}

module _ {V : Type 0} (serves : V → List ℕ → List ℕ → V → Type 0) (stays : V → V → Type 0) where
  run-then : (s m u : V) (xs ys : List MessageExchange) → Run serves s xs m → Run serves m ys u → Run serves s (xs ++ ys) u
  run-then s m u [] ys p q = subst (λ x. Run serves x ys u) p q
  run-then s m u (x ∷ xs) ys p q = (p.0, p.1, run-then p.0 m u xs ys p.2 q)

  -- ---- turns of a stream

  leaves_kept : (result : Option End) (s u : V) → ((a : V) → stays a a) → u ≡ s → StreamLeaves serves stays result s u
  leaves_kept None s u itself e = e
  leaves_kept (Some end) s u itself e = subst (stays s) (sym e) (itself s)

  -- the servant wasn't asked
  pub passes : (s u : V) (l : Option (List ℕ)) (r : ℕ) (rest : List ℕ) (count asked : ℕ) (o p : Outbound) (new : StreamState)
      (result : Option End) → ((a : V) → stays a a) → u ≡ s → p ≡ o
      → Advances [] result (stand l r rest count asked p) new
      → Proceeds serves stays s u (stand l r rest count asked o) new result
  passes s u l r rest count asked o p new result itself e same a = record {
    exchanges = [];
    last = s;
    run = refl;
    leaves = leaves_kept result s u itself e;
    advances =
        subst (λ (x : Outbound). Advances [] result (stand l r rest count asked x) new) same a;
  }

  -- it was asked, and did nothing
  pub keeps : (s u : V) (end : End) (old new : StreamState) → stays s u → Advances [] (Some end) old new
      → Proceeds serves stays s u old new (Some end)
  keeps s u end old new kept a = record {
    exchanges = [];
    last = s;
    run = refl;
    leaves = kept;
    advances = a;
  }

  leaves_same : (result : Option End) (u : V) → ((a : V) → stays a a) → StreamLeaves serves stays result u u
  leaves_same None u itself = refl
  leaves_same (Some end) u itself = itself u

  -- it answered
  pub proceeds : (x : MessageExchange) (s u : V) (old new : StreamState) (result : Option End) → ((a : V) → stays a a)
      → IsExchange serves s x u → Advances (x ∷ []) result old new → Proceeds serves stays s u old new result
  proceeds x s u old new result itself done a = record {
    exchanges = x ∷ [];
    last = u;
    run = (u, done, refl);
    leaves = leaves_same result u itself;
    advances = a;
  }

  -- what was done since the beginning
  pub record Came (s u : V) (before : Outside) (at : StreamState) : Type 0 where
    pub exchanges : List MessageExchange
    pub run : Run serves s exchanges u
    pub moves : StreamMoves exchanges (first_stand before) at

  pub came-first : (s : V) (before : Outside) (at : StreamState) → StreamMoves [] (first_stand before) at → Came s s before at
  came-first s before at m = record { exchanges = []; run = refl; moves = m }

  pub came-on : (s m u : V) (before : Outside) (old new : StreamState) → Came s m before old
      → Proceeds serves stays m u old new None → Came s u before new
  came-on s m u before old new c p =
      let run : Run serves m p.exchanges u = subst (Run serves m p.exchanges) (sym p.leaves) p.run in
      let moves = moves-then c.exchanges p.exchanges (first_stand before) old p.advances.at c.moves p.advances.moves in
      record {
        exchanges = c.exchanges ++ p.exchanges;
        run = run-then s m u c.exchanges p.exchanges c.run run;
        moves =
            subst (λ (x : StreamState). StreamMoves (c.exchanges ++ p.exchanges) (first_stand before) x)
            (sym p.advances.goes.here) moves;
      }

  pub streams-last : (s m u : V) (end : End) (before : Outside) (old new : StreamState) → Came s m before old
      → Proceeds serves stays m u old new (Some end) → Streams serves stays s u end before (outside_of new)
  streams-last s m u end before old new c p = record {
    exchanges = c.exchanges ++ p.exchanges;
    last = p.last;
    run = run-then s m p.last c.exchanges p.exchanges c.run p.run;
    stayed = p.leaves;
    stream =
        ends c.exchanges p.exchanges end before old p.advances.at new c.moves p.advances.moves p.advances.goes;
  }

  pub streams-none : (s : V) (end : End) (before after : Outside) → stays s s → StreamFinishes [] end before after [] 0 0
      → Streams serves stays s s end before after
  streams-none s end before after kept f = record {
    exchanges = [];
    last = s;
    run = refl;
    stayed = kept;
    stream = f;
  }

  -- ---- budgets

  module _ (budget : V → ℕ)
      (each : (s : V) (message reply : List ℕ) (t : V) → serves s message reply t
      → budget t ≤ budget s + cond (is_request message) 1 0) where
    -- each Request takes one of a budget at most
    spends_run : (s u : V) (xs : List MessageExchange) → Run serves s xs u → budget u ≤ budget s + requests xs
    spends_run s u [] r = omega (arith, ap budget r)
    spends_run s u (x ∷ xs) r =
        omega (
          arith,
          each s x.message x.reply r.0 r.1.served,
          spends_run r.0 u xs r.2,
          sum_by-cons (λ (y : MessageExchange). cond (is_request y.message) 1 0) x xs,
        )

    pub spends : (s u : V) (before : Outside) (at : StreamState) (from : ℕ) → budget s ≤ from → Came s u before at
        → budget u ≤ from + at.requests
    spends s u before at from within c =
        omega (arith, within, spends_run s u c.exchanges c.run, c.moves.asked)
