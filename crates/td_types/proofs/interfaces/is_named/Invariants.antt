use Rattle.std.proofs.Common.{◌≡◌, drop}
use Rattle.td_types.specs.Reaching.{names_base}
use Rattle.td_types.proofs.interfaces.is_named.Given as goal

-- what is left names the base where all do
abbrev pub invariant-loop-place : goal.invariant-loop-place
invariant-loop-place l = names_base (drop l.place l.declared) (drop l.place l.marks) l.base ≡ names_base l.declared l.marks l.base
