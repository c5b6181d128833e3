use Rattle.std.proofs.Common.{refl, rules}
use Rattle.td_iter.specs.Heads.{IsSmallReference, ids_found}
use Rattle.td_ops.specs.declared.outcome.Reply.TheVariants.{Ids}
use Rattle.td_audit.proofs.Begun.{header_stays}
use Rattle.td_audit.proofs.Comparing.{more-is, tells-batch}
use Rattle.td_audit.proofs.replies.has_ids.Goals as goal

pub put_first-requires-clause-start : goal.put_first-requires-clause-start
put_first-requires-clause-start c = c.in_ok-writer.ensures.start

pub ends_so-requires : goal.ends_so-requires
ends_so-requires c = header_stays _ _ _ c.in_ok-writer.ensures.start c.in_ok-count.ensures.puts.bytes

pub returns : goal.returns
returns c =
    let small : IsSmallReference c.args.reply.now.iterator = search rules in
    tells-batch ids_found (λ some r. Ids some r) (λ r items more. refl) c.args.form c.args.n
    c.args.ids.now c.args.reply.now c.in_ok-writer.writer c.put_first.new.w c.in_ok-count.count
    c.in_ok-writer.ensures.bytes c.in_ok-writer.ensures.order c.put_first.ensures.order c.in_ok-count.ensures.puts small
    c.ends_so.result _ _ (more-is c.in_ok-count.count c.args.ids.now) refl c.ends_so.ensures
