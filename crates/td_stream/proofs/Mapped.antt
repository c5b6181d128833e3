-- A stream over a servant, told of what is seen of it.
use Rattle.std.proofs.Common.{ℕ, List, [], ◌∷◌, ap}
use Rattle.td_stream.specs.declared.end.End.{End}
use Rattle.td_stream.specs.Exchanges.{MessageExchange, Run}
use Rattle.td_stream.specs.Outside.{Outside}
use Rattle.td_stream.specs.Streams.{Streams}

module _ {V W : Type 0} (see : V → W) (serves : V → List ℕ → List ℕ → V → Type 0) (stays : V → V → Type 0)
    (serves_seen : W → List ℕ → List ℕ → W → Type 0) (stays_seen : W → W → Type 0)
    (each : (s : V) (message reply : List ℕ) (t : V) → serves s message reply t
    → serves_seen (see s) message reply (see t))
    (none : (s t : V) → stays s t → stays_seen (see s) (see t)) where
  run_seen : (s u : V) (xs : List MessageExchange) → Run serves s xs u → Run serves_seen (see s) xs (see u)
  run_seen s u [] r = ap see r
  run_seen s u (x ∷ xs) r = (
    see r.0,
    record { step = r.1.step; served = each s x.message x.reply r.0 r.1.served },
    run_seen r.0 u xs r.2,
  )

  pub seen_so : (s u : V) (end : End) (before after : Outside) → Streams serves stays s u end before after
      → Streams serves_seen stays_seen (see s) (see u) end before after
  seen_so s u end before after r = record {
    exchanges = r.exchanges;
    last = see r.last;
    run = run_seen s r.last r.exchanges r.run;
    stayed = none r.last u r.stayed;
    stream = r.stream;
  }
