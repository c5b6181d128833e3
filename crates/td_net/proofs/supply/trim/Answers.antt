use Rattle.std.proofs.Common.{◌≡◌, ◌++◌, ◌∷◌, [], ◌∙◌, ap, sym, rules}
use Rattle.td_net.proofs.Trimming.{as-it-is, without-zero}
use Rattle.td_net.proofs.supply.trim.Goals as goal
use Rattle.td_net.specs.Supplies.{without_zeros}

pub loop-words-preserved : goal.loop-words-preserved
loop-words-preserved c =
    let z : c.in-Some-eq0.field-0 ≡ 0 = search rules in
    sym (without-zero c.pop.new.self.items)
    ∙ (ap (λ n. without_zeros (c.pop.new.self.items ++ n ∷ [])) (sym z)
    ∙ (ap without_zeros (sym c.in-Some-eq0.ensures.items) ∙ c.loop-words.invariant))

pub returns-in-Some : goal.returns-in-Some
returns-in-Some c =
    let z : c.in-Some.word ≡ 0 → ⊥ = search rules in
    c.push_reserved.ensures.items
    ∙ (sym (as-it-is c.pop.new.self.items c.in-Some.word z)
    ∙ (ap without_zeros (sym c.in-Some.ensures.items) ∙ c.loop-words.invariant))
