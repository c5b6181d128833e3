use Rattle.std.proofs.Common.{◌≡◌, ◌<◌, length, rules, true}
use Rattle.td_net.proofs.Taking.{there, value-wants}
use Rattle.td_net.proofs.resuming.value.Goals as goal
use Rattle.td_net.specs.Worlds.{evaluates}

pub returns-in-Err-clause-takes : goal.returns-in-Err-clause-takes
returns-in-Err-clause-takes c w group visits =
    let calls = c.args.visits.now.calls.items in
    let x = c.index.result.now in
    let within : c.args.call < length calls = search rules in
    let does : evaluates x.stage ≡ true = search rules in
    value-wants w c.args.call c.args.value calls c.args.visits.now.words visits x c.resume.new.visits.calls.items
    c.resume.new.visits.words.drawn (there calls c.args.call x within c.index.ensures) does c.in-Err.ensures.kept
