use Rattle.std.proofs.Common.{Bool, ◌++◌, ◌%◌, length, nat_lt, sym, ap, ◌∙◌, arith}
use Rattle.td_typecode.specs.References.{reference}
use Rattle.td_iter.specs.Heads.{given_or_nil, nil}
use Rattle.td_iter.proofs.Loading.{some-left}
use Rattle.td_iter.proofs.Endings.{first-puts, reference-short, nil-small, picked}
use Rattle.td_iter.proofs.Lengths.{reference-aligned}
use Rattle.td_iter.proofs.first.append_first.Goals as goal

pub put_counted-requires-clause-more : goal.put_counted-requires-clause-more
put_counted-requires-clause-more g c =
    let short = reference-short c.args.iterator.now c.requires.reference c.args.w.now.order
    (length c.args.w.now.bytes) in
    omega (arith, c.in_ok-more.ensures.size, short)

pub put_counted-requires-clause-done : goal.put_counted-requires-clause-done
put_counted-requires-clause-done g c =
    let before = c.reference_size.new.w in
    let size = c.in_ok-done.ensures.size
    ∙ ap (λ r. length (reference.format.writes r before.order (length before.bytes))) c.nil-none.ensures in
    let short = reference-short nil nil-small before.order (length before.bytes) in
    omega (arith, size, short)

pub returns-clause-puts : goal.returns-clause-puts
returns-clause-puts g c =
    let old = c.args.w.now in
    let before = c.reference_size.new.w in
    let now = c.put_counted.new.w in
    let given = λ (b : Bool). given_or_nil c.args.iterator.now b in
    let aligned = ap (λ n. n % 4) c.requires.start in
    let more = nat_lt c.in_ok-count.count (length c.args.items.now) in
    first-puts g.T.Spelled.format.writes (λ (b : Bool). reference.format.writes (given b)) (λ (b : Bool). reference-aligned
    (given b)) c.args.items.now (record { more = c.in_ok-more.more; done = c.in_ok-done.done })
    old c.reference_size-2.new.w now c.write.new.w c.args.n c.in_ok-count.count old.order before.order
    (length old.bytes) (length before.bytes) aligned (ap (λ bytes. length bytes % 4) c.in_ok-more.ensures.same
    ∙ aligned)
    c.in_ok-more.ensures.size (c.in_ok-done.ensures.size
    ∙ ap (λ r. length (reference.format.writes r before.order (length before.bytes))) c.nil-none.ensures)
    (c.in_ok-done.ensures.same ∙ c.in_ok-more.ensures.same) (c.in_ok-done.ensures.order
    ∙ c.in_ok-more.ensures.order) c.in_ok-count.ensures.fills c.in_ok-count.ensures.order
    (c.in_ok-write.ensures.done ∙ ap (λ r. now.bytes ++ reference.format.writes r now.order (length now.bytes))
    (picked more c.given_or_nil.result.now c.args.iterator.now c.nil-none.result c.given_or_nil.ensures
    c.nil-none.ensures ∙ ap given (sym (some-left c.in_ok-count.count c.args.items.now))))
