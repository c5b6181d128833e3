use Rattle.std.proofs.Common.{sym, ◌∙◌}
use Rattle.td_types.proofs.Chains.{within-equal}
use Rattle.td_types.proofs.Tables.{undeclared-leads}
use Rattle.td_types.proofs.interfaces.leads.Goals as goal

pub returns-then-eq : goal.returns-then-eq
returns-then-eq c =
    c.if-eq.true ∙ sym (within-equal c.args.declared.now c.args.first.now c.args.last.now
    (sym c.eq.ensures ∙ c.if-eq.true))

pub returns-in-None : goal.returns-in-None
returns-in-None c =
    c.eq-in-None.ensures ∙ undeclared-leads c.args.declared.now c.args.first.now c.args.last.now c.in-None.ensures
