-- A snapshot is what it shows.
use Rattle.std.proofs.Common.{◌≡◌, ap}
use Rattle.std.specs.declared.snapshot.Snapshot.{Snapshot}
use Rattle.td_typecode.specs.declared.code.Any.{Any}
use Rattle.td_net.specs.Worlds.{seen_as}
use Rattle.td_trader.specs.PlainTraders.{PlainTrader}

pub value-shown : (s : Snapshot Any) (v : Any) → s.value ≡ v → s ≡ record { marker = record {}; value = v }
value-shown s v e = ap (λ (z : Any). record { marker = record {}; value = z }) e

pub trader-shown : (s : Snapshot PlainTrader) (t : PlainTrader) → s.value ≡ t → s ≡ seen_as t
trader-shown s t e = ap seen_as e
