-- One text in another, by the place where it begins.
use Rattle.std.proofs.Common.{◌≡◌, ℕ, List, [], ◌∷◌, true, ◌||◌, nat_eq, ap, sym, ◌∙◌}
use Rattle.std.specs.List.{starts_with}
use Rattle.td_eval.specs.Comparing.{occurs_in}

pub occurs_here : (part text : List ℕ) → starts_with nat_eq text part ≡ true → true ≡ occurs_in part text
occurs_here part [] h = sym h
occurs_here part (b ∷ text) h = ap (λ t. true) h ∙ sym (ap (λ t. t || occurs_in part text) h)
