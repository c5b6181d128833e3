use Rattle.std.proofs.Common.{◌≡◌, List, length, sym, ap, ◌∙◌, arith}
use Rattle.std.specs.Prelude.{Option}
use Rattle.tc_edges.specs.declared.edges.Spelling.{Spelling}
use Rattle.tc_edges.proofs.Noting.{written-back, spellings-length}
use Rattle.tc_edges.proofs.spellings.spellings_of.Goals as goal

pub returns-clause-value : goal.returns-clause-value
returns-clause-value c =
    let t = c.in_ok-table.table in
    let size : length t.items ≡ length c.args.graph.now = c.in_ok-table.ensures.size ∙ c.len.ensures.value in
    let same : length c.note_all.new.table ≡ length t.items =
    ap (λ (xs : List (Option Spelling)). length xs) c.note_all.ensures ∙ spellings-length c.args.graph.now ∙ sym size in
    written-back t.len c.note_all.new.table t.items (omega (arith, t.ok.0)) same ∙ c.note_all.ensures
