use Rattle.std.proofs.Common.{◌∙◌}
use Rattle.td_store.proofs.Setting.{insert-last, matched, put-back}
use Rattle.td_store.proofs.inserting.put_offer.Goals as goal

pub returns-in-Ok-clause-put : goal.returns-in-Ok-clause-put
returns-in-Ok-clause-put c = record {
  place = c.in_ok-place.place;
  puts = c.in_ok-place.ensures.put;
  noted =
      c.in-Ok.ensures.entries ∙ insert-last c.args.offer.number c.in_ok-place.place c.args.numbers.now.entries
      c.requires.above;
}

pub returns-in-Err-clause-as_before : goal.returns-in-Err-clause-as_before
returns-in-Err-clause-as_before c =
    put-back c.args.slab.now c.put_at.new.slab c.take.new.self c.args.of_type c.args.of_kind c.args.offer
    c.in_ok-place.place c.in_ok-place.ensures.put
    (matched c.take.result c.args.offer _ _ (c.take.ensures.value ∙ c.in_ok-place.ensures.put.value)
    c.take.ensures.none)
