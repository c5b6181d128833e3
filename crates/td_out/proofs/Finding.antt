-- A text of a name among files.
use Rattle.std.proofs.Common.{◌≡◌, ℕ, List, [], ◌∷◌, Option, Some, Err, true, false, cond, refl, sym, ap, ◌∙◌}
use Rattle.std.proofs.Common.{option_map}
use Rattle.std.specs.List.{find}
use Rattle.std.specs.Str.{bytes_eq}
use Rattle.td_out.specs.Texts.{NamedText, text_named}
use Rattle.td_out.specs.InMemory.{Shelf, named_texts, as_given, answer_of}
use Rattle.td_out.specs.Calls.{fails}
use Rattle.td_out.specs.declared.fault.TextFault.TheVariants as fault

-- the text of a name is what the first file of that name holds
pub named_text : (name : List ℕ) (files : List (List ℕ × List ℕ))
    → text_named name (named_texts files) ≡ option_map (λ f. f.1) (find (λ f. bytes_eq f.0 name) files)
named_text name [] = refl
named_text name (f ∷ files) =
    elim (bytes_eq f.0 name) as (λ b.
    option_map (λ (t : NamedText). t.bytes)
    (cond b (Some (record { name = f.0; bytes = f.1 }))
    (find (λ (t : NamedText). bytes_eq t.name name) (named_texts files)))
    ≡ option_map (λ (t : List ℕ × List ℕ). t.1)
    (cond b (Some f) (find (λ (t : List ℕ × List ℕ). bytes_eq t.0 name) files)))
    [ true ↦ refl | false ↦ named_text name files ]

-- what the first file of that name holds, as it is given, is what a call answers that isn't among those that fail
pub answered : (s : Shelf) (name : List ℕ) (files : List (List ℕ × List ℕ)) (text : Option (List ℕ))
    → s.texts ≡ named_texts files → fails s.calls ≡ false → text ≡ option_map (λ f. f.1) (find (λ f. bytes_eq f.0 name) files)
    → as_given text ≡ answer_of s name
answered s name files text held goes first =
    let answer : answer_of s name ≡ as_given (text_named name s.texts) =
    ap (λ b. cond b (Err fault.Failed) (as_given (text_named name s.texts))) goes in
    let given : text_named name s.texts ≡ text = ap (text_named name) held ∙ named_text name files ∙ sym first in
    sym (answer ∙ ap as_given given)
