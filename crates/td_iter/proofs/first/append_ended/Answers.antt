use Rattle.std.proofs.Common.{Bool, ◌++◌, ◌%◌, length, drop, ap, ◌∙◌, arith}
use Rattle.td_typecode.specs.Formats.{is_nonempty}
use Rattle.td_value.specs.Structures.{offer}
use Rattle.td_iter.specs.Heads.{given_or_nil, nil}
use Rattle.td_iter.proofs.Endings.{first-puts, ending, ending-aligned, ending-short, nil-small}
use Rattle.td_iter.proofs.Whole.{always-nil}
use Rattle.td_iter.proofs.first.append_ended.Goals as goal

pub put_counted-requires-clause-more : goal.put_counted-requires-clause-more
put_counted-requires-clause-more c =
    let old = c.args.w.now in
    let size = c.in_ok-size.ensures.size
    ∙ ap (λ r. length (ending c.args.limits.now r old.order (length old.bytes))) c.nil-none.ensures in
    let short = ending-short c.args.limits.now nil c.requires.limits nil-small old.order (length old.bytes) in
    omega (arith, size, short)

pub put_counted-requires-clause-done : goal.put_counted-requires-clause-done
put_counted-requires-clause-done c =
    let old = c.args.w.now in
    let size = c.in_ok-size.ensures.size
    ∙ ap (λ r. length (ending c.args.limits.now r old.order (length old.bytes))) c.nil-none.ensures in
    let short = ending-short c.args.limits.now nil c.requires.limits nil-small old.order (length old.bytes) in
    omega (arith, size, short)

pub returns-clause-puts : goal.returns-clause-puts
returns-clause-puts c =
    let old = c.args.w.now in
    let now = c.put_counted.new.w in
    let limits = c.args.limits.now in
    let given = λ (b : Bool). given_or_nil nil b in
    let aligned = ap (λ n. n % 4) c.requires.start in
    let size = c.in_ok-size.ensures.size
    ∙ ap (λ r. length (ending limits r old.order (length old.bytes))) c.nil-none.ensures in
    first-puts offer.format.writes (λ (b : Bool). ending limits (given b)) (λ (b : Bool). ending-aligned limits
    (given b)) c.args.offers.now (record { more = c.in_ok-size.size; done = c.in_ok-size.size })
    old c.ended_size.new.w now c.put_two.new.w c.args.n c.in_ok-count.count old.order old.order (length old.bytes)
    (length old.bytes) aligned aligned size size c.in_ok-size.ensures.same c.in_ok-size.ensures.order
    c.in_ok-count.ensures.fills c.in_ok-count.ensures.order
    (c.in_ok-put_two.ensures.done ∙ ap (λ r. now.bytes ++ ending limits r now.order (length now.bytes))
    (c.nil-none.ensures ∙ always-nil (is_nonempty (drop c.in_ok-count.count c.args.offers.now))))
