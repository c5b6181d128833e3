use Rattle.std.proofs.Common.{ap, sym, ◌∙◌}
use Rattle.std.specs.Map.{values_of}
use Rattle.td_store.proofs.Linked.{Pairs, rule_so, rules_set, nothing_ruled, names_ruled}
use Rattle.td_store.proofs.links.Links.set_rules.Goals as goal
use Rattle.td_store.proofs.links.Links.set_rules.Goals.{in-Some, in_default}

pub invariant_of-self : goal.invariant_of-self
invariant_of-self c = elim c.match-get_mut.branch [
  | in-Some w ↦
      rw w.self-inside-is (
      let holds = c.get_mut.follows.holds (rule_so c.args.def_pass_on c.args.limiting w.in-Some.link.now) in
      record {
        names =
            rw holds.0 (names_ruled c.as_slice.result.now c.args.def_pass_on c.args.limiting
            c.self.inside.named.entries w.in-Some.link.now c.self.invariant.names (sym w.in-Some.ensures.value));
        unique = holds.4;
      }
      )
  | in_default w ↦
      rw (w.self-inside-is, c.get_mut.follows.holds-at-none) c.self.invariant
]

pub returns : goal.returns
returns c = elim c.match-get_mut.branch [
  | in-Some w ↦
      rw w.self-inside-is (
      let holds = c.get_mut.follows.holds (rule_so c.args.def_pass_on c.args.limiting w.in-Some.link.now) in
      rw (← c.self.view_is, ← c.as_slice.ensures) (ap (λ (es : Pairs). values_of es) holds.0
      ∙ rules_set c.as_slice.result.now c.args.def_pass_on c.args.limiting c.self.inside.named.entries
      w.in-Some.link.now c.self.invariant.names c.self.invariant.unique (sym w.in-Some.ensures.value))
      )
  | in_default w ↦
      rw (w.self-inside-is, c.get_mut.follows.holds-at-none, ← c.self.view_is, ← c.as_slice.ensures)
      (sym (nothing_ruled c.as_slice.result.now c.args.def_pass_on c.args.limiting c.self.inside.named.entries
      c.self.invariant.names (sym w.in_default.ensures.value)))
]
