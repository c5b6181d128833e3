use Rattle.std.proofs.Common.{◌≡◌, min, refl, rules, subst, sym}
use Rattle.td_iter.specs.Heads.{AreLimits, AreSmallOffers}
use Rattle.td_lookup.proofs.Queried.{parse_answer}
use Rattle.td_lookup.proofs.querying.tell_visit.Goals as goal

pub put_offers-requires-clause-limits : goal.put_offers-requires-clause-limits
put_offers-requires-clause-limits c =
    subst AreLimits (sym c.in_ok-wanted-in-Answered.ensures.limits) (rw (c.in-Ok.is, c.in-Answered.is) at c.requires.limits)

pub put_offers-requires-clause-small : goal.put_offers-requires-clause-small
put_offers-requires-clause-small c =
    subst AreSmallOffers (sym c.in_ok-wanted-in-Answered.ensures.offers) (rw (c.in-Ok.is, c.in-Answered.is) at c.requires.small)

pub returns-in-Refused-clause-content : goal.returns-in-Refused-clause-content
returns-in-Refused-clause-content c =
    rw (c.in-Ok.is, c.in-Refused.is)
    (record { outcome = c.into_inner.result; content = (c.into_inner.ensures, refl); tells = (refl, refl) })

pub returns-in_ok-put_offers-in-Answered-clause-content : goal.returns-in_ok-put_offers-in-Answered-clause-content
returns-in_ok-put_offers-in-Answered-clause-content c =
    let least : c.min-n.result ≡ min c.args.q.now.how_many c.in-Answered.max_list = search rules in
    rw (c.in-Ok.is, c.in-Answered.is)
    (parse_answer c.args.home.now c.args.name.now c.args.q.now c.in-Answered.answer c.in-Answered.max_list c.args.w.now
    c.put_offers.new.w c.args.desk.now c.put_offers.new.desk c.in_ok-wanted-in-Answered.wanted c.min-n.result
    c.in_ok-wanted-in-Answered.ensures.offers c.in_ok-wanted-in-Answered.ensures.limits least c.in_ok-put_offers-in-Answered.ensures.puts)
