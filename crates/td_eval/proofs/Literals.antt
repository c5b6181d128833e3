-- What the literals of texts are read as, and how long an expansion is.
use Rattle.std.proofs.Common.{◌≡◌, ℕ, ◌≤◌, Bool, true, false, nat_le, if◌then◌else◌, List, length, Option, Some, None}
use Rattle.std.proofs.Common.{Ok, refl, sym, subst, rules}
use Rattle.std.specs.Prelude.{IsTrue}
use Rattle.std.proofs.lemmas.Bool.{leb-true}
use Rattle.td_lang.specs.declared.expr.Part.{Part}
use Rattle.td_lang.specs.declared.expr.Expr.TheVariants as expr
use Rattle.td_lang.specs.declared.expr.Constraint.TheVariants as constraint
use Rattle.td_lang.specs.Constraints.{constraint_of}
use Rattle.td_lang.specs.Grammar.{Shallow}
use Rattle.td_lang.specs.PrintedTexts.{constraint_text}
use Rattle.td_lang.specs.Printing.{CanBeRead, put}
use Rattle.td_lang.proofs.PrintedConstraints.{constraint_back}
use Rattle.td_lang.proofs.PlainTrees.{plain-Str}
use Rattle.td_lang.proofs.PrintedPhrases.{of-Str}
use Rattle.td_value.specs.declared.structures.Property.{Property}
use Rattle.td_eval.specs.Expansion.{text_literal, concatenation, if_short, expansion}

short : (o : Option (List ℕ)) (text : List ℕ) → if_short o ≡ Some text → length text ≤ 65536
short None text h = absurd (cc)
short (Some t) text h = bounded (nat_le (length t) 65536) t text refl h
  where
    bounded : (b : Bool) (t text : List ℕ) → nat_le (length t) 65536 ≡ b → (if b then Some t else None) ≡ Some text
        → length text ≤ 65536
    bounded true t text e h =
        let same : t ≡ text = cc in subst (λ x. length x ≤ 65536) same (leb-true (length t) 65536 e)
    bounded false t text e h = absurd (cc)

pub expansion_is_short : (asked : List ℕ) (map : List Property) (parts : List Part) (text : List ℕ)
    → expansion asked map parts ≡ Some text → length text ≤ 65536
expansion_is_short asked map parts text h = short (concatenation asked map parts) text h

printed_literal : (t : List ℕ) → constraint_text (constraint.Is (expr.Str t)) ≡ text_literal t
unfolding put
printed_literal t = rw (of-Str t 1) refl

can : (t : List ℕ) → CanBeRead (expr.Str t)
can t = (subst IsTrue (sym (plain-Str t)) (search rules), subst (Shallow 64) (sym (of-Str t 1)) tt)

pub literal_is_read : (t : List ℕ) → length (text_literal t) ≤ 4096
    → constraint_of (text_literal t) ≡ Ok (constraint.Is (expr.Str t))
literal_is_read t h =
    subst (λ (x : List ℕ). constraint_of x ≡ Ok (constraint.Is (expr.Str t))) (printed_literal t)
    (constraint_back (constraint.Is (expr.Str t)) (can t)
    (subst (λ (x : List ℕ). length x ≤ 4096) (sym (printed_literal t)) h))
