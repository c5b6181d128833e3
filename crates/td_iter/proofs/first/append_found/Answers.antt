use Rattle.std.proofs.Common.{Bool, ◌++◌, ◌%◌, length, nat_lt, sym, ap, ◌∙◌, arith}
use Rattle.td_value.specs.Structures.{offer}
use Rattle.td_iter.specs.Heads.{given_or_nil, nil}
use Rattle.td_iter.proofs.Loading.{some-left}
use Rattle.td_iter.proofs.Endings.{first-puts, ending, ending-aligned, ending-short, nil-small, picked}
use Rattle.td_iter.proofs.first.append_found.Goals as goal

pub put_counted-requires-clause-more : goal.put_counted-requires-clause-more
put_counted-requires-clause-more c =
    let short = ending-short c.args.limits.now c.args.iterator.now c.requires.limits c.requires.reference
    c.args.w.now.order (length c.args.w.now.bytes) in
    omega (arith, c.in_ok-more.ensures.size, short)

pub put_counted-requires-clause-done : goal.put_counted-requires-clause-done
put_counted-requires-clause-done c =
    let before = c.found_size.new.w in
    let size = c.in_ok-done.ensures.size
    ∙ ap (λ r. length (ending c.args.limits.now r before.order (length before.bytes))) c.nil-none.ensures in
    let short = ending-short c.args.limits.now nil c.requires.limits nil-small before.order (length before.bytes) in
    omega (arith, size, short)

pub returns-clause-puts : goal.returns-clause-puts
returns-clause-puts c =
    let old = c.args.w.now in
    let before = c.found_size.new.w in
    let now = c.put_counted.new.w in
    let given = λ (b : Bool). given_or_nil c.args.iterator.now b in
    let limits = c.args.limits.now in
    let aligned = ap (λ n. n % 4) c.requires.start in
    let more = nat_lt c.in_ok-count.count (length c.args.offers.now) in
    first-puts offer.format.writes (λ (b : Bool). ending limits (given b)) (λ (b : Bool). ending-aligned limits
    (given b)) c.args.offers.now (record { more = c.in_ok-more.more; done = c.in_ok-done.done })
    old c.found_size-2.new.w now c.put_two.new.w c.args.n c.in_ok-count.count old.order before.order
    (length old.bytes) (length before.bytes) aligned (ap (λ bytes. length bytes % 4) c.in_ok-more.ensures.same
    ∙ aligned)
    c.in_ok-more.ensures.size (c.in_ok-done.ensures.size
    ∙ ap (λ r. length (ending limits r before.order (length before.bytes))) c.nil-none.ensures)
    (c.in_ok-done.ensures.same ∙ c.in_ok-more.ensures.same) (c.in_ok-done.ensures.order
    ∙ c.in_ok-more.ensures.order) c.in_ok-count.ensures.fills c.in_ok-count.ensures.order
    (c.in_ok-put_two.ensures.done
    ∙ ap (λ r. now.bytes ++ ending limits r now.order (length now.bytes))
    (picked more c.given_or_nil-reference.result.now c.args.iterator.now c.nil-none.result
    c.given_or_nil-reference.ensures c.nil-none.ensures
    ∙ ap given (sym (some-left c.in_ok-count.count c.args.offers.now))))
