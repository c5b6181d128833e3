use Rattle.std.proofs.Common.{refl}
use Rattle.std.specs.Prelude.{codes}
use Rattle.td_make.specs.Generated.{first_traders}
use Rattle.td_make.proofs.Rows.{two-pieces}
use Rattle.td_make.proofs.generating.put_file.Goals as goal

pub returns : goal.returns
returns c =
    let address = codes "address 127.0.0.1 2809\n" in
    let traders = first_traders c.args.count c.args.count in
    two-pieces c.args.text.now.items address address traders traders c.put.new.text.items c.put_traders.new.text.items
    c.put_traders.result refl refl c.in_ok-put.ensures c.put_traders.ensures
