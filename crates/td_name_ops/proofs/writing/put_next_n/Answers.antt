use Rattle.std.proofs.Common.{◌≡◌, Bool, true, false, not, List, [], ◌∷◌, refl}
use Rattle.std.specs.Prelude.{◌↔◌, IsTrue}
use Rattle.td_typecode.specs.Formats.{is_nonempty}
use Rattle.td_name_ops.proofs.writing.put_next_n.Goals as goal

some : {X : Type 0} (xs : List X) (empty : Bool) → (IsTrue empty ↔ (xs ≡ [])) → not empty ≡ is_nonempty xs
some [] true h = refl
some [] false h = let wrong = h.1 refl in absurd cc
some (x ∷ xs) true h = let wrong = h.0 refl in absurd cc
some (x ∷ xs) false h = refl

pub returns : goal.returns
returns c =
    let same = some c.args.bindings.now c.is_empty.result c.is_empty.ensures in
    rw same at c.put_two.ensures
