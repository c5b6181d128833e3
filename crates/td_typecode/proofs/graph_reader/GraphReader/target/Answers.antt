use Rattle.std.proofs.Common.{ℕ, ◌+◌, ◌-◌, ap, ◌∙◌, arith}
use Rattle.td_typecode.proofs.GraphParts.{target-is}
use Rattle.td_typecode.proofs.graph_reader.GraphReader.target.Goals as goal

pub returns : goal.returns
returns c =
    let s = c.args.self.now.state in
    let a = c.args.self.now.at in
    target-is c.begun.result.now s a c.args.long _ c.counted-place.result c.first_leading.result c.begun.ensures.stand
    (c.counted-place.ensures ∙ ap (λ (n : ℕ). s.base + (n - a.origin)) c.aligned.ensures.value) c.requires
    c.aligned.ensures.inside (omega arith) c.first_leading.ensures
