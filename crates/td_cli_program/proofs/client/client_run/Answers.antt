use Rattle.std.proofs.Common.{◌<◌, length, arith, map}
use Rattle.std.specs.Prelude.{string_bytes}
use Rattle.std.proofs.lemmas.List.{length-map}
use Rattle.td_cli_program.proofs.Never.{documented}
use Rattle.td_cli_program.proofs.client.client_run.Goals as goal

pub returns-clause-documented : goal.returns-clause-documented
returns-clause-documented g c asked spells plain =
    let read =
    c.documented_words_are_read.ensures _ asked spells
    (let short : length c.args.args.now < 18446744073709551616 = assumption c.well_formed in
    rw length-map (omega (arith, short))) in
    documented (map string_bytes c.args.args.now) asked _ _ _ _ _ _ c.obey.result read.0 read.1 plain c.obey.ensures
