use Rattle.std.proofs.Common.{◌<◌, sym, arith, true≢false}
use Rattle.indexmap.specs.IndexMap.{index_map_len}
use Rattle.td_names.specs.Applying.{binding_of}
use Rattle.td_names.proofs.Listing.{taken_more}
use Rattle.td_names.proofs.bindings.Bindings.list.Goals as goal
use Rattle.td_names.proofs.bindings.Bindings.list.Goals.{in-Some+in_ok-copy+in_ok-push, in_default}

pub loop-i-preserved : goal.loop-i-preserved
loop-i-preserved c = elim c.match-get_index.branch [
  | in-Some+in_ok-copy+in_ok-push w ↦
      rw (w.list-is, w.in_ok-push.ensures.ok, w.in_ok-copy.ensures, c.loop-i.invariant, ← c.self.view_is)
      (taken_more binding_of c.self.inside.named.entries c.loop-i.i (w.in-Some.component.now, w.in-Some.bound.now)
      w.in-Some.ensures.entry)
  | in_default w ↦
      let inside : c.loop-i.i < index_map_len c.self.inside.named = omega
      (arith, c.len-i-end.ensures.len, c.loop-i-test.true) in
      absurd (true≢false (sym (w.in_default.ensures.found.1 inside)))
]
