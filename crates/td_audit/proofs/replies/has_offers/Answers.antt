use Rattle.std.proofs.Common.{refl, rules}
use Rattle.td_typecode.specs.declared.reference.Ior.{Ior}
use Rattle.td_iter.specs.Heads.{IsSmallReference, offers_found}
use Rattle.td_audit.specs.Replies.{found_with}
use Rattle.td_audit.proofs.Begun.{header_stays}
use Rattle.td_audit.proofs.Comparing.{more-is, tells-batch}
use Rattle.td_audit.proofs.replies.has_offers.Goals as goal

pub put_found-requires-clause-start : goal.put_found-requires-clause-start
put_found-requires-clause-start c = c.in_ok-writer.ensures.start

pub ends_so-requires : goal.ends_so-requires
ends_so-requires c = header_stays _ _ _ c.in_ok-writer.ensures.start c.in_ok-count.ensures.puts.bytes

pub returns : goal.returns
returns c =
    let small : IsSmallReference c.args.reply.now.iterator = search rules in
    tells-batch (λ (r : Ior). offers_found r c.args.limits.now) (found_with c.args.limits.now) (λ r items more. refl)
    c.args.form c.args.n c.args.offers.now c.args.reply.now c.in_ok-writer.writer c.put_found.new.w c.in_ok-count.count
    c.in_ok-writer.ensures.bytes c.in_ok-writer.ensures.order c.put_found.ensures.order c.in_ok-count.ensures.puts small
    c.ends_so.result _ _ (more-is c.in_ok-count.count c.args.offers.now) refl c.ends_so.ensures
