use Rattle.std.proofs.Common.{ap, sym, ◌∙◌}
use Rattle.std.specs.Map.{values_of}
use Rattle.td_types.proofs.ByName.{Pairs, set_so, masked, names_masked, nothing_masked}
use Rattle.td_types.proofs.entries.Entries.set_mask.Goals as goal
use Rattle.td_types.proofs.entries.Entries.set_mask.Goals.{in-Some, in_default}

pub invariant_of-self : goal.invariant_of-self
invariant_of-self c = elim c.match-get_mut.branch [
  | in-Some w ↦
      rw w.self-inside-is (
      let holds = c.get_mut.follows.holds (set_so c.args.masked w.in-Some.entry.now) in
      record {
        names =
            rw holds.0 (names_masked c.self.inside.named.entries c.args.name.now c.args.masked w.in-Some.entry.now
            c.self.invariant.names (sym w.in-Some.ensures.value));
        unique = holds.4;
      }
      )
  | in_default w ↦
      rw (w.self-inside-is, c.get_mut.follows.holds-at-none) c.self.invariant
]

pub returns : goal.returns
returns c = elim c.match-get_mut.branch [
  | in-Some w ↦
      rw w.self-inside-is (
      let holds = c.get_mut.follows.holds (set_so c.args.masked w.in-Some.entry.now) in
      rw (← c.self.view_is) (ap (λ (es : Pairs). values_of es) holds.0
      ∙ masked c.self.inside.named.entries c.args.name.now c.args.masked w.in-Some.entry.now c.self.invariant.names
      c.self.invariant.unique (sym w.in-Some.ensures.value))
      )
  | in_default w ↦
      rw (w.self-inside-is, c.get_mut.follows.holds-at-none, ← c.self.view_is)
      (sym (nothing_masked c.self.inside.named.entries c.args.name.now c.args.masked c.self.invariant.names
      (sym w.in_default.ensures.value)))
]
