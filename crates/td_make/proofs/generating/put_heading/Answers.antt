use Rattle.std.proofs.Common.{ap, refl}
use Rattle.std.specs.Prelude.{codes}
use Rattle.td_forms.specs.Counted.{label_number}
use Rattle.td_make.proofs.Rows.{two-pieces}
use Rattle.td_make.proofs.generating.put_heading.Goals as goal

pub returns : goal.returns
returns c =
    let lines = codes "\ntype Base -\nprop mandatory ulong Cost\ntype Sub - Base\n" in
    two-pieces c.args.text.now.items (label_number (codes "trader T") c.from.result)
    (label_number (codes "trader T") c.args.trader) lines lines _ _ c.put.result
    (ap (label_number (codes "trader T")) c.from.ensures) refl c.in_ok-put_counted.ensures c.put.ensures
