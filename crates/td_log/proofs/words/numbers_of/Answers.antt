use Rattle.std.proofs.Common.{◌≡◌, List, ℕ, subst, sym}
use Rattle.td_log.proofs.Framed.{content-as}
use Rattle.td_log.proofs.Numbers.{behind, numbers-end, numbers-next, numbers-stop}
use Rattle.td_log.specs.Words.{numbers_of}
use Rattle.td_log.proofs.words.numbers_of.Goals as goal

pub returns-in_default : goal.returns-in_default
returns-in_default c =
    numbers-stop c.words.numbers c.words.rest.now c.in-Some.word.now c.in-Some.others.now (numbers_of c.args.text.now)
    (sym c.in-Some.ensures.cut) (sym c.in_default.ensures) c.words.invariant

pub words-preserved : goal.words-preserved
words-preserved c =
    subst (λ (ns : List ℕ). behind ns (numbers_of c.in-Some.others.now) ≡ numbers_of c.args.text.now)
    (sym c.in_ok-push-in-Some.ensures.ok)
    (numbers-next c.words.numbers c.words.rest.now c.in-Some.word.now c.in-Some.others.now c.in-Some-number_of.number
    (numbers_of c.args.text.now) (sym c.in-Some.ensures.cut) (sym c.in-Some-number_of.ensures) c.words.invariant)

pub returns-in-None : goal.returns-in-None
returns-in-None c =
    content-as c.last_number.result _ (numbers_of c.args.text.now)
    (numbers-end c.words.numbers c.words.rest.now (numbers_of c.args.text.now) (sym c.in-None.ensures.cut)
    c.words.invariant)
    c.last_number.ensures
