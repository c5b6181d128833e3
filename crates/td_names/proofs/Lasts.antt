-- Names, and their last components.
use Rattle.std.proofs.Common.{◌≡◌, List, [], ◌∷◌, ◌++◌, refl, ap, ◌∙◌, sym}
use Rattle.td_names.specs.Walking.{last_in, last_of, nobody}
use Rattle.td_names.specs.declared.component.NameComponent.{NameComponent}

pub last_in-push : (j k : NameComponent) (ks : List NameComponent) → last_in j (ks ++ k ∷ []) ≡ k
last_in-push j k [] = refl
last_in-push j k (l ∷ ks) = last_in-push l k ks

pub last_of-push : (name ks : List NameComponent) (k : NameComponent) → name ≡ ks ++ k ∷ [] → k ≡ last_of name
last_of-push name ks k h = sym (ap last_of h ∙ last_in-push nobody k ks)
