use Rattle.std.proofs.Common.{◌∙◌, ◌≡◌, sym, false, map}
use Rattle.std.specs.List.{list_any}
use Rattle.std.specs.Prelude.{string_bytes}
use Rattle.td_cdr.specs.Text.{has_nul}
use Rattle.td_cli_program.proofs.Judging.{any-map, made, unread, with_nul}
use Rattle.td_cli_program.proofs.words.asking_in.Goals as goal

pub returns-then-have_nul : goal.returns-then-have_nul
returns-then-have_nul c =
    with_nul _ (any-map string_bytes has_nul c.args.words.now ∙ sym c.have_nul.ensures ∙ c.if-have_nul.true)

pub returns-in-Err : goal.returns-in-Err
returns-in-Err c = unread _ c.in-Err.refusal c.in-Err.ensures

pub returns-in-Ok : goal.returns-in-Ok
returns-in-Ok c =
    let plain : list_any has_nul (map string_bytes c.args.words.now) ≡ false =
    any-map string_bytes has_nul c.args.words.now ∙ sym c.have_nul.ensures ∙ c.if-have_nul.false in
    made _ _ c.make-answer.result plain c.in-Ok.ensures c.make-answer.ensures
