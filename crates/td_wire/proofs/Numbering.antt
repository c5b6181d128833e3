-- The connections by their numbers: the past ones, and then the one that stands.
use Rattle.std.proofs.Common.{◌≡◌, ℕ, ◌<◌, ◌≤◌, List, [], ◌∷◌, ◌++◌, length, get_or, Option, Some, None, refl, sym}
use Rattle.std.proofs.Common.{◌∙◌, arith}
use Rattle.std.proofs.lemmas.List.{length-append, get_or_append_left, get_or_push, length_push}
use Rattle.std.proofs.lemmas.Option.{slice_get_read, slice_get_past}
use Rattle.std.specs.Prelude.{slice_get}
use Rattle.td_wire.specs.Connections.{as_list, first_or_none}

pub number_past : {X : Type 0} (past more : List X) (i : ℕ) (c : X) → i < length past → c ≡ get_or past i c
    → slice_get (past ++ more) i ≡ Some c
number_past past more i c h e =
    slice_get_read (past ++ more) (length (past ++ more)) i c refl (rw length-append (omega (arith, h)))
    (e ∙ sym (get_or_append_left past more c i h))

pub number_last : {X : Type 0} (past : List X) (c : X) (i : ℕ) → i ≡ length past → slice_get (past ++ c ∷ []) i ≡ Some c
number_last past c i e =
    slice_get_read (past ++ c ∷ []) (length (past ++ c ∷ [])) i c refl (rw length_push (omega (arith, e)))
    (sym (get_or_push past c c i (sym e)))

pub number_none : {X : Type 0} (past : List X) (current : Option X) (i : ℕ) → length past < i
    → slice_get (past ++ as_list current) i ≡ None
number_none past None i h = slice_get_past (past ++ []) i (rw length-append (omega (arith, h)))
number_none past (Some c) i h = slice_get_past (past ++ c ∷ []) i (rw length_push (omega (arith, h)))

pub number_ended : {X : Type 0} (past : List X) (i : ℕ) → length past ≤ i → slice_get (past ++ []) i ≡ None
number_ended past i h = slice_get_past (past ++ []) i (rw length-append (omega (arith, h)))

-- the first of some answers
pub first_answer : (answers : List (List ℕ)) (first : List ℕ) → 0 < length answers → first ≡ get_or answers 0 first
    → first ≡ first_or_none answers
first_answer [] first h e = absurd (omega arith)
first_answer (answer ∷ answers) first h e = e

pub ruleset by_number = (number_past, number_none, number_last, number_ended)
