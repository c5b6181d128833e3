use Rattle.std.proofs.Common.{◌≡◌, map, refl, ap, ◌∙◌, min}
use Rattle.td_cdr.specs.Writing.{Draft}
use Rattle.td_giop.specs.Written.{reply_start}
use Rattle.td_log.specs.Forms.{minor_of}
use Rattle.td_lookup.specs.Choosing.{chosen}
use Rattle.td_lookup.specs.Querying.{first_offers}
use Rattle.td_value.specs.declared.unions.SpecifiedProps.TheVariants as desired
use Rattle.td_audit.proofs.Comparing.{first-batch}
use Rattle.td_audit.specs.Making.{form}
use Rattle.td_audit.proofs.making.reply_with.Goals as goal

pub returns : goal.returns
returns c =
    let items = map (chosen desired.None) c.args.answer.now.offers in
    let limits = c.args.answer.now.limits in
    let bytes : c.in_ok-writer.writer.bytes ≡ reply_start form.order (minor_of form.version) form.id 0 =
    rw c.form.ensures at c.in_ok-writer.ensures.bytes in
    let order : c.in_ok-writer.writer.order ≡ form.order = rw c.form.ensures at c.in_ok-writer.ensures.order in
    let b =
    first-batch c.as_slice.result.now items limits c.args.home.now c.args.name.now form c.min-n.result
    (min 100 c.args.max_list) c.in_ok-iterator.iterator c.in_ok-writer.writer c.put_found.new.w c.in_ok-_count._count
    (c.as_slice.ensures ∙ (c.in_ok-offers-2.ensures ∙ ap (map (chosen desired.None)) c.in_ok-offers.ensures))
    c.min-n.ensures c.in_ok-iterator.ensures.reference bytes order c.put_found.ensures.order
    c.in_ok-_count.ensures.puts in (
      first_offers c.args.home.now c.args.name.now 1 limits items c.in_ok-_count._count,
      (
        c.in_ok-_count._count,
        b.0,
        refl,
      ),
      ap (λ (d : Draft). d.bytes) c.seal.ensures ∙ b.1,
    )
