use Rattle.std.proofs.Common.{ap, ◌∙◌}
use Rattle.std.proofs.lemmas.Result.{err_from_is_err_and}
use Rattle.td_ops.specs.declared.call.Change.TheVariants as change
use Rattle.td_ops.specs.declared.outcome.Reply.{Reply}
use Rattle.td_register.specs.Entries.{entry}
use Rattle.td_admin.proofs.LinkCauses.{is_added, not_added, not_counted, not_made}
use Rattle.td_admin.proofs.linking.add_link.Goals as goal

pub returns-in_err-link : goal.returns-in_err-link
returns-in_err-link c =
    let p = err_from_is_err_and c.from_residual.result c.from_residual.ensures.1 in
    rw (p.1, p.2) (not_made c.args.store.now c.args.name c.args.target c.args.def_pass_on c.args.limiting
    c.args.register c.args.full c.in_err-link.field-0.0 (rw c.get.ensures at c.in_err-link.ensures))

pub returns-then-full : goal.returns-then-full
returns-then-full c =
    not_counted c.args.store.now c.args.name c.args.target c.args.def_pass_on c.args.limiting c.args.register
    c.args.full (rw c.get.ensures at c.in_ok-link.ensures).0 c.if-full.true

pub returns-in_err-insert_link : goal.returns-in_err-insert_link
returns-in_err-insert_link c =
    let p =
    err_from_is_err_and c.from_residual-in_err-insert_link.result c.from_residual-in_err-insert_link.ensures.1 in
    rw (p.1, p.2) (not_added c.args.store.now c.args.name c.args.target c.args.def_pass_on c.args.limiting
    c.args.register c.args.full c.in_ok-link.link c.insert_link.new.store c.in_err-insert_link.field-0.0
    (rw c.get.ensures at c.in_ok-link.ensures).0 c.in_err-insert_link.ensures)

pub returns : goal.returns
returns c =
    is_added c.args.store.now c.args.name c.args.target c.args.def_pass_on c.args.limiting c.args.register
    c.args.full c.in_ok-link.link c.entry_of.result c.insert_link.new.store (rw c.get.ensures at c.in_ok-link.ensures).0 c.if-full.false
    (rw c.get.ensures at c.in_ok-link.ensures).2 c.in_ok-insert_link.ensures
    (c.entry_of.ensures ∙ ap (λ (r : Reply). entry (change.AddLink c.args.name c.args.target c.args.def_pass_on
    c.args.limiting c.args.register) r) c.nothing.ensures)
