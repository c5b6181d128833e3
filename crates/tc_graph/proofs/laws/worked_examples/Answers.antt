use Rattle.std.proofs.Common.{ℕ, zero, suc, refl, arith}
use Rattle.tc_graph.specs.Aliases.{bare_within, AliasChain}
use Rattle.tc_graph.specs.Examples.{aliases_in_loop}
use Rattle.tc_graph.specs.Sameness.{alike}
use Rattle.tc_graph.proofs.laws.worked_examples.Goals as goal

never-back : (n : ℕ) → (AliasChain n aliases_in_loop 1 0 → ⊥) × (AliasChain n aliases_in_loop 2 0 → ⊥)
unfolding AliasChain
never-back zero = (λ e. omega (arith, e), λ e. omega (arith, e))
never-back (suc n) = (λ c. (never-back n).1 c.1, λ c. (never-back n).0 c.1)

pub returns-clause-sameness : goal.returns-clause-sameness
unfolding alike bare_within
returns-clause-sameness c = record {
  itself = refl;
  once = refl;
  turned = refl;
  shallow = refl;
  deep = refl;
  aliases = refl;
  no_id = refl;
  no_id_turned = refl;
  two_ids = refl;
  names = refl;
  count = refl;
  kind = refl;
}

pub returns-clause-aliases : goal.returns-clause-aliases
unfolding bare_within AliasChain
returns-clause-aliases c = record {
  two = refl;
  none = refl;
  before = λ back. (never-back back.0).0 back.1.1;
  first = (1, (refl, (refl, refl)));
  second = (1, (refl, (refl, refl)));
}

pub returns-clause-filling : goal.returns-clause-filling
returns-clause-filling c = record { unfilled = refl; twice = refl; edge = refl; place = refl }
