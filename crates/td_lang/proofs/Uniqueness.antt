-- A text has one answer: one tree, or one first fault.
use Rattle.std.proofs.Common.{◌≡◌, ℕ, nat_lt, Bool, true, false, if◌then◌else◌, List, [], ◌∷◌, ◌++◌, length, inl, inr}
use Rattle.std.proofs.Common.{Result, Ok, Err, refl, sym, ap, subst, ◌∙◌, arith}
use Rattle.std.proofs.lemmas.Bool.{ltb-true, ltb-false}
use Rattle.std.proofs.lemmas.List.{append-nil}
use Rattle.td_lang.specs.declared.expr.Expr.{Expr}
use Rattle.td_lang.specs.declared.expr.Constraint.{Constraint}
use Rattle.td_lang.specs.declared.expr.Constraint.TheVariants as constraint
use Rattle.td_lang.specs.declared.token.Token.{Token}
use Rattle.td_lang.specs.declared.fault.LangFault.{LangFault}
use Rattle.td_lang.specs.declared.fault.LangFault.TheVariants as fault
use Rattle.td_lang.specs.Grammar.{Sentence}
use Rattle.td_lang.specs.FirstFaults.{Viable, CompletesTree, First, ParsesOrFaults}
use Rattle.td_lang.specs.Lexing.{GivesFault}
use Rattle.td_lang.specs.Reading.{start}
use Rattle.td_lang.specs.Tape.{Tape, Over, Broken, Spot, tape, read_tape, ◌>>=◌}
use Rattle.td_lang.specs.Constraints.{IsTreeOrFault, ParsesConstraint, Says, tape_constraint, constraint_of}
use Rattle.td_lang.specs.Constraints.{UnlessMemory}
use Rattle.td_lang.proofs.Completeness.{one_tree}
use Rattle.td_lang.proofs.Soundness.{before_more}
use Rattle.td_lang.proofs.TreeOrFault.{answered}
use Rattle.td_lang.proofs.TapeSpelling.{AllOnTape, tape_kept}

whole_viable : (rest : Tape) (ts : List Token) (e : Expr) → AllOnTape rest → CompletesTree ts rest e → Viable ts
whole_viable (Over place) ts e own w = record {
  more = [];
  spelled = tt;
  expr = e;
  sentence = subst (λ (xs : List Token). Sentence xs e) (sym (append-nil ts)) w;
}
whole_viable (Broken f) ts e own w = absurd w
whole_viable (Spot place t rest) ts e own w = before_more ts t own.0 (whole_viable rest (ts ++ t ∷ []) e own.1 w)

first_viable : (rest : Tape) (ts : List Token) (f : LangFault) → AllOnTape rest → First ts rest f → Viable ts
first_viable (Over place) ts f own h = h.0
first_viable (Broken g) ts f own h = h.0
first_viable (Spot place t rest) ts f own (inl h) = h.0
first_viable (Spot place t rest) ts f own (inr h) = before_more ts t own.0 (first_viable rest (ts ++ t ∷ []) f own.1 h)

trees : (rest : Tape) (ts : List Token) (e f : Expr) → CompletesTree ts rest e → CompletesTree ts rest f → e ≡ f
trees (Over place) ts e f h k = one_tree ts e f h k
trees (Broken g) ts e f h k = absurd h
trees (Spot place t rest) ts e f h k = trees rest (ts ++ t ∷ []) e f h k

tree_or_fault : (rest : Tape) (ts : List Token) (e : Expr) (f : LangFault) → AllOnTape rest → CompletesTree ts rest e
    → First ts rest f → ⊥
tree_or_fault (Over place) ts e f own w h = h.1 e w
tree_or_fault (Broken g) ts e f own w h = w
tree_or_fault (Spot place t rest) ts e f own w (inl h) = h.1 (whole_viable rest (ts ++ t ∷ []) e own.1 w)
tree_or_fault (Spot place t rest) ts e f own w (inr h) = tree_or_fault rest (ts ++ t ∷ []) e f own.1 w h

faults : (rest : Tape) (ts : List Token) (f g : LangFault) → AllOnTape rest → First ts rest f → First ts rest g → f ≡ g
faults (Over place) ts f g own h k = h.2 ∙ sym k.2
faults (Broken x) ts f g own h k = h.1 ∙ sym k.1
faults (Spot place t rest) ts f g own (inl h) (inl k) = h.2 ∙ sym k.2
faults (Spot place t rest) ts f g own (inl h) (inr k) = absurd (h.1 (first_viable rest (ts ++ t ∷ []) g own.1 k))
faults (Spot place t rest) ts f g own (inr h) (inl k) = absurd (k.1 (first_viable rest (ts ++ t ∷ []) f own.1 h))
faults (Spot place t rest) ts f g own (inr h) (inr k) = faults rest (ts ++ t ∷ []) f g own.1 h k

-- tokens have one tree, or one first fault
pub one_answer : (rest : Tape) (ts : List Token) (r q : Result Expr LangFault) → AllOnTape rest → ParsesOrFaults ts rest r
    → ParsesOrFaults ts rest q → r ≡ q
one_answer rest ts (Ok e) (Ok f) own h k = ap (λ (x : Expr). Ok x) (trees rest ts e f h k)
one_answer rest ts (Ok e) (Err g) own h k = absurd (tree_or_fault rest ts e g own h k)
one_answer rest ts (Err f) (Ok e) own h k = absurd (tree_or_fault rest ts e f own k h)
one_answer rest ts (Err f) (Err g) own h k = ap (λ (x : LangFault). Err x) (faults rest ts f g own h k)

one_made : (rest : Tape) (r q : Result Constraint LangFault) → AllOnTape rest → IsTreeOrFault rest r
    → IsTreeOrFault rest q → r ≡ q
one_made rest (Ok constraint.Empty) q own h k = absurd h
one_made rest r (Ok constraint.Empty) own h k = absurd k
one_made rest (Ok (constraint.Is e)) (Ok (constraint.Is f)) own h k =
    ap (λ (x : Expr). Ok (constraint.Is x)) (trees rest [] e f h k)
one_made rest (Ok (constraint.Is e)) (Err g) own h k = absurd (tree_or_fault rest [] e g own h k)
one_made rest (Err f) (Ok (constraint.Is e)) own h k = absurd (tree_or_fault rest [] e f own k h)
one_made rest (Err f) (Err g) own h k = ap (λ (x : LangFault). Err x) (faults rest [] f g own h k)

one_asked : (rest : Tape) (r q : Result Constraint LangFault) → AllOnTape rest → ParsesConstraint rest r → ParsesConstraint rest q → r ≡ q
one_asked (Over place) r q own h k = h ∙ sym k
one_asked (Broken f) r q own h k = one_made (Broken f) r q own h k
one_asked (Spot place t rest) r q own h k = one_made (Spot place t rest) r q own h k

-- a text has one answer
pub one_said : (text : List ℕ) (r q : Result Constraint LangFault) → Says text r → Says text q → r ≡ q
one_said text r q (inl h) (inl k) = h.1 ∙ sym k.1
one_said text r q (inl h) (inr k) = absurd (omega (arith, h.0, k.0))
one_said text r q (inr h) (inl k) = absurd (omega (arith, h.0, k.0))
one_said text r q (inr h) (inr k) = one_asked (tape 0 0 text) r q (tape_kept text 0 0) h.1 k.1

made_of : (rest : Tape) (r : Result Expr LangFault) → ParsesOrFaults [] rest r
    → IsTreeOrFault rest (r >>= λ e. Ok (constraint.Is e))
made_of rest (Ok e) h = h
made_of rest (Err f) h = h

asks_so : (rest : Tape) → ParsesConstraint rest (tape_constraint rest)
asks_so (Over place) = refl
asks_so (Broken f) = answered (Broken f) [] start refl refl
asks_so (Spot place t rest) =
    made_of (Spot place t rest) (read_tape start (Spot place t rest)) (answered (Spot place t rest) [] start refl refl)

-- and the reader finds it
pub says_so : (text : List ℕ) → Says text (constraint_of text)
says_so text = either (nat_lt 4096 (length text)) refl
  where
    either : (b : Bool) → nat_lt 4096 (length text) ≡ b
        → Says text (if b then Err fault.TooLong else tape_constraint (tape 0 0 text))
    either true is = inl (ltb-true 4096 (length text) is, refl)
    either false is = inr (ltb-false 4096 (length text) is, asks_so (tape 0 0 text))

pub answered_so : {X : Type 0} (P : Result X LangFault → Type 0) (r q : Result X LangFault) → GivesFault (λ x. x) r q
    → P q → UnlessMemory P r
answered_so P (Ok x) q g h = subst P g h
answered_so P (Err fault.Memory) q g h = tt
answered_so P (Err f) q g h = subst P g h

pub said : (text : List ℕ) (r : Result Constraint LangFault) → GivesFault (λ c. c) r (constraint_of text)
    → UnlessMemory (Says text) r
said text r g = answered_so (λ q. Says text q) r (constraint_of text) g (says_so text)
