-- How the logic stores a network; no clause speaks of it.
use Rattle.std.specs.Prelude.{ℕ, Bool, List, refl}
use Rattle.std.specs.Coded.{Coded, code_by, coded×, coded_bool, coded_list, coded_ℕ}
use Rattle.td_trader.specs.PlainTraders.{PlainTrader}
use Rattle.td_walk.specs.declared.trace.Address.{Address}
use Rattle.td_net.specs.Worlds.{World}
use Rattle.td_net.specs.declared.call.Call.{Call}

abbrev pub world_code : Coded PlainTrader → Coded Address → Coded Call → Coded World
world_code trader address call =
    code_by
    (List PlainTrader × (Address × (List Call × (ℕ × (List ℕ × (ℕ × Bool))))))
    (coded× (coded_list trader)
    (coded× address (coded× (coded_list call)
    (coded× coded_ℕ (coded× (coded_list coded_ℕ) (coded× coded_ℕ coded_bool))))))
    (λ w. (w.traders, (w.home, (w.calls, (w.clock, (w.words, (w.drawn, w.no_memory_outcome)))))))
    (λ p. record {
      traders = p.0;
      home = p.1.0;
      calls = p.1.1.0;
      clock = p.1.1.1.0;
      words = p.1.1.1.1.0;
      drawn = p.1.1.1.1.1.0;
      no_memory_outcome = p.1.1.1.1.1.1;
    })
    (λ _. refl)
