use Rattle.std.proofs.Common.{sym}
use Rattle.td_servant.proofs.Naming.{found_at, found_named, none_at}
use Rattle.td_servant.proofs.objects.find_object.Goals as goal
use Rattle.td_servant.specs.Objects.{key_with}

pub returns-in-Some-clause-found : goal.returns-in-Some-clause-found
returns-in-Some-clause-found g c =
    found_at (g.T.Traders.world c.args.traders.now) c.args.desk.now c.args.key.now
    (key_with c.in-Some.name.now c.in-Some.kind) c.object_keyed.result (sym c.in-Some.ensures)
    c.object_keyed.ensures.found

pub returns-in-Some-clause-named : goal.returns-in-Some-clause-named
returns-in-Some-clause-named g c =
    found_named (g.T.Traders.world c.args.traders.now) c.args.desk.now c.args.key.now
    (key_with c.in-Some.name.now c.in-Some.kind) c.object_keyed.result (sym c.in-Some.ensures)
    c.object_keyed.ensures.found

pub returns-in-None-clause-found : goal.returns-in-None-clause-found
returns-in-None-clause-found g c =
    none_at (g.T.Traders.world c.args.traders.now) c.args.desk.now c.args.key.now (sym c.in-None.ensures)
