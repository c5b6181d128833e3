-- How the logic stores what peers in memory are; no clause speaks of it.
use Rattle.std.specs.Prelude.{ℕ, List, refl}
use Rattle.std.specs.Coded.{Coded, code_by, coded×, coded_list, coded_ℕ}
use Rattle.td_typecode.specs.declared.code.Any.{Any}
use Rattle.td_typecode.specs.declared.code.TypeCode.{TypeCode}
use Rattle.td_typecode.specs.declared.reference.Ior.{Ior}
use Rattle.td_ops.specs.declared.call.Query.{Query}
use Rattle.td_peers.specs.Scripts.{ScriptState, Script}
use Rattle.td_peers.specs.declared.scripted.Scripted.{Scripted}
use Rattle.td_walk.specs.Peering.{Exchange}
use Rattle.td_walk.specs.Storing.{exchange_code}
use Rattle.td_walk.specs.declared.answer.SubAnswer.{SubAnswer}
use Rattle.td_walk.specs.declared.fault.PeerFault.{PeerFault}

abbrev played_by : Coded Scripted → Coded Exchange → Coded ScriptState
played_by of_entry of_exchange =
    code_by
    (Script × (List Exchange × (List ℕ × (ℕ × ℕ))))
    (coded× (coded_list (coded× (coded_list coded_ℕ) of_entry))
    (coded× (coded_list of_exchange) (coded× (coded_list coded_ℕ) (coded× coded_ℕ coded_ℕ))))
    (λ p. (p.script, (p.calls, (p.failing, (p.made, p.faults)))))
    (λ p. record {
      script = p.0;
      calls = p.1.0;
      failing = p.1.1.0;
      made = p.1.1.1.0;
      faults = p.1.1.1.1;
    }) (λ _. refl)

abbrev pub played_code : Coded Scripted → Coded Ior → Coded Query → Coded TypeCode → Coded Any
    → Coded SubAnswer → Coded PeerFault → Coded ScriptState
played_code entry ior query code any answer fault =
    played_by entry (exchange_code ior query code any answer fault)
