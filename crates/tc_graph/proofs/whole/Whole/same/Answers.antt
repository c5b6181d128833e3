use Rattle.std.proofs.Common.{◌≡◌, ◌*◌, ◌∙◌, ◌↔◌, Bool, IsTrue, IfOk, length}
use Rattle.std.proofs.lemmas.Bool.Decides.{same_from_decides}
use Rattle.tc_graph.specs.Sameness.{Alike, alike}
use Rattle.tc_graph.proofs.Deciding.{alike-Decides, if_ok}
use Rattle.tc_graph.proofs.whole.Whole.same.Goals as goal

pub returns-clause-decided : goal.returns-clause-decided
returns-clause-decided c =
    let g = c.args.self.now in
    let h = c.args.other.now in
    let one : c.as_slice.result.now ≡ g = c.as_slice.ensures.value ∙ c.self.view_is in
    let two : c.as_slice-2.result.now ≡ h = c.as_slice-2.ensures.value ∙ c.other.view_is in
    let depth : IfOk c.same_nodes.result (λ (yes : Bool). IsTrue yes ↔ Alike (length g * length h) g 0 h 0) =
    rw (one, two) at c.same_nodes.ensures.depth in
    if_ok c.same_nodes.result (λ (yes : Bool). IsTrue yes ↔ Alike (length g * length h) g 0 h 0)
    (λ (yes : Bool). yes ≡ alike (length g * length h) g 0 h 0)
    (λ yes same. same_from_decides yes (alike (length g * length h) g 0 h 0) same
    (alike-Decides (length g * length h) g 0 h 0)) depth
