use Rattle.std.proofs.Common.{sym, subst}
use Rattle.td_lines.specs.Laws.{IsValidScript}
use Rattle.td_lines.specs.declared.entry.Script.{Script}
use Rattle.td_file.proofs.Whole.{address_of, opens, seed_of}
use Rattle.td_file.proofs.reading.read_file.Goals as goal

pub open_script-requires : goal.open_script-requires
open_script-requires c =
    subst (λ (s : Script). IsValidScript s) (sym c.in-Ok.ensures) (c.scripts_are_sound.ensures c.args.text.now)

pub returns-in-Ok : goal.returns-in-Ok
returns-in-Ok c =
    let answers =
    opens c.args.text.now c.in-Ok.script c.open_script.result c.in-Ok.ensures c.open_script.ensures in
    let sound = c.scripts_are_sound.ensures c.args.text.now in
    record {
      answers = answers;
      address = address_of c.args.text.now c.open_script.result sound answers;
      seed = seed_of c.args.text.now c.open_script.result sound answers;
    }
