use Rattle.td_store_tests.proofs.Counts.{five-steps}
use Rattle.td_store_tests.proofs.many.finds.Goals as goal

pub returns-in_err-found : goal.returns-in_err-found
returns-in_err-found g c =
    five-steps c.args.types.now.types c.args.printer.now c.args.offers.now c.args.steps.now c.candidates.new.steps
    c.requires.above c.requires.few c.candidates.ensures.steps

pub returns : goal.returns
returns g c =
    five-steps c.args.types.now.types c.args.printer.now c.args.offers.now c.args.steps.now c.candidates.new.steps
    c.requires.above c.requires.few c.candidates.ensures.steps
