use Rattle.std.proofs.Common.{◌+◌, ◌++◌, take, drop, length, nat_lt, sym, ap, ◌∙◌}
use Rattle.td_cdr.specs.Gap.{bytes_of}
use Rattle.td_iter.specs.Filling.{padded_flag}
use Rattle.td_iter.proofs.Counting.{next-puts}
use Rattle.td_typecode.specs.Formats.{is_nonempty}
use Rattle.td_iter.specs.Truths.{content}
use Rattle.td_iter.proofs.Loading.{some-left, some-taken}
use Rattle.td_iter.proofs.next.append_next.Goals as goal

pub returns-clause-puts : goal.returns-clause-puts
returns-clause-puts g c =
    let now = c.put_counted.new.w in
    let k = c.in_ok-count.count in
    let all = length c.args.items.now in
    let more = content c.args.truth (nat_lt 0 k) (nat_lt k all) in
    let says = ap (λ b. content c.args.truth b (nat_lt k all)) (sym (some-taken k c.args.items.now
    c.in_ok-count.ensures.fills.is_greatest.there))
    ∙ ap (content c.args.truth (is_nonempty (take k c.args.items.now))) (sym (some-left k c.args.items.now)) in
    let flag = c.padded_flag-flag.ensures ∙ ap (λ o. padded_flag o c.content.result) c.order.ensures
    ∙ ap (padded_flag now.order) c.content.ensures in
    next-puts c.args.truth g.T.Spelled.format.writes c.args.items.now c.args.w.now c.u32.new.self now c.set_u32.new.self c.args.n
    c.in_ok-count.count c.len-place.result more
    c.requires c.in_ok-u32.ensures.done.0 c.in_ok-u32.ensures.done.1 c.in_ok-count.ensures.fills
    c.in_ok-count.ensures.order c.len-place.ensures.len says
    (ap (λ d. d.bytes) c.set_u32.ensures
    ∙ ap (λ v. take c.len-place.result now.bytes ++ bytes_of now.order 4 v ++ drop (c.len-place.result + 4)
    now.bytes) flag)
