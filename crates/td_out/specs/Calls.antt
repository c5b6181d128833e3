-- Which calls of an object in memory fail.
use Rattle.std.specs.Prelude.{Bool, nat_eq}
use Rattle.std.specs.List.{list_any}
use Rattle.td_out.specs.declared.calls.Calls.{Calls}
use Rattle.td_out.specs.Causes.{next_count}

-- the call that comes next is among those that fail; calls are numbered from 1
abbrev pub fails : Calls → Bool
fails c = list_any (λ number. nat_eq number (next_count c.made)) c.failing

-- one call more was made
abbrev pub count_call : Calls → Calls
count_call c = record c { made = next_count c.made }

-- one call more was made, and it failed
abbrev pub count_failure : Calls → Calls
count_failure c = record c { made = next_count c.made; faults = next_count c.faults }
