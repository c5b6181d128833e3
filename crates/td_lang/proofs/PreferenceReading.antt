-- A preference is read as the grammar says.
use Rattle.std.proofs.Common.{◌≡◌, ℕ, ◌<◌, append_assoc, nat_lt, Bool, true, false, if◌then◌else◌, List, [], ◌∷◌, ◌++◌}
use Rattle.std.proofs.Common.{length, inl, inr, Result, Ok, Err, refl, sym, ap, subst, ◌∙◌, arith}
use Rattle.std.proofs.lemmas.Bool.{ltb-true, ltb-false}
use Rattle.std.proofs.lemmas.List.{append-nil}
use Rattle.td_lang.specs.declared.expr.Expr.{Expr}
use Rattle.td_lang.specs.declared.expr.Preference.{Preference}
use Rattle.td_lang.specs.declared.expr.Preference.TheVariants as preference
use Rattle.td_lang.specs.declared.token.Keyword.{Keyword}
use Rattle.td_lang.specs.declared.token.Keyword.TheVariants as keyword
use Rattle.td_lang.specs.declared.token.Token.{Token}
use Rattle.td_lang.specs.declared.token.Token.TheVariants as token
use Rattle.td_lang.specs.declared.machine.Stop.{Stop}
use Rattle.td_lang.specs.declared.machine.Stop.TheVariants as stop
use Rattle.td_lang.specs.declared.fault.LangFault.{LangFault}
use Rattle.td_lang.specs.declared.fault.LangFault.TheVariants as fault
use Rattle.td_lang.specs.Constraints.{UnlessMemory}
use Rattle.td_lang.specs.FirstFaults.{Viable, CompletesTree, First, ParsesOrFaults, fault_of}
use Rattle.td_lang.specs.Grammar.{Sentence}
use Rattle.td_lang.specs.Lexing.{GivesFault, HasSpelling}
use Rattle.td_lang.specs.Preferences.{FollowsWord, IsPreference, ViablePreference, WholePreference, FirstFault, Chooses}
use Rattle.td_lang.specs.Preferences.{Prefers, alone, behind, spot_preference, tape_preference, preference_of}
use Rattle.td_lang.specs.Reading.{start, read}
use Rattle.td_lang.specs.Reading as reading
use Rattle.td_lang.specs.Tape.{Tape, Over, Broken, Spot, tape, read_tape, ◌>>=◌}
use Rattle.td_lang.proofs.TreeOrFault.{answered}
use Rattle.td_lang.proofs.Completeness.{reads}
use Rattle.td_lang.proofs.Uniqueness.{answered_so}
use Rattle.td_lang.proofs.TapeSpelling.{AllOnTape, tape_kept}

-- ---- a list of tokens is one preference

abbrev picked_behind : Keyword → List Token → Result Preference Stop
picked_behind keyword.First [] = Ok preference.First
picked_behind keyword.First (t ∷ ts) = Err stop.Refused
picked_behind keyword.Random [] = Ok preference.Random
picked_behind keyword.Random (t ∷ ts) = Err stop.Refused
picked_behind keyword.Min ts = reading.◌>>=◌ (read ts) (λ e. Ok (preference.Min e))
picked_behind keyword.Max ts = reading.◌>>=◌ (read ts) (λ e. Ok (preference.Max e))
picked_behind keyword.With ts = reading.◌>>=◌ (read ts) (λ e. Ok (preference.With e))

abbrev picked : List Token → Result Preference Stop
picked [] = Ok preference.Empty
picked (token.Keyword k ∷ ts) = picked_behind k ts
picked (t ∷ ts) = Err stop.Refused

picks : (ts : List Token) (p : Preference) → IsPreference ts p → picked ts ≡ Ok p
picks ts preference.Empty h = ap picked h
picks ts preference.First h = ap picked h
picks ts preference.Random h = ap picked h
picks ts (preference.Min e) h =
    ap picked h.front ∙ ap (λ (r : Result Expr Stop). reading.◌>>=◌ r (λ x. Ok (preference.Min x)))
    (reads h.rest e h.sentence)
picks ts (preference.Max e) h =
    ap picked h.front ∙ ap (λ (r : Result Expr Stop). reading.◌>>=◌ r (λ x. Ok (preference.Max x)))
    (reads h.rest e h.sentence)
picks ts (preference.With e) h =
    ap picked h.front ∙ ap (λ (r : Result Expr Stop). reading.◌>>=◌ r (λ x. Ok (preference.With x)))
    (reads h.rest e h.sentence)

pub one_preference : (ts : List Token) (p q : Preference) → IsPreference ts p → IsPreference ts q → p ≡ q
one_preference ts p q h k = let both = sym (picks ts p h) ∙ picks ts q k in cc

-- ---- the word in front

abbrev is_keyword : Token → Bool
is_keyword (token.Keyword k) = true
is_keyword t = false

abbrev first_of : List Token → Token
first_of [] = token.Open
first_of (t ∷ ts) = t

abbrev others_of : List Token → List Token
others_of [] = []
others_of (t ∷ ts) = ts

in_front : (t : Token) (ts : List Token) (p : Preference) → IsPreference (t ∷ ts) p → is_keyword t ≡ true
in_front t ts preference.Empty h = absurd cc
in_front t ts preference.First h = ap (λ (xs : List Token). is_keyword (first_of xs)) h
in_front t ts preference.Random h = ap (λ (xs : List Token). is_keyword (first_of xs)) h
in_front t ts (preference.Min e) h = ap (λ (xs : List Token). is_keyword (first_of xs)) h.front
in_front t ts (preference.Max e) h = ap (λ (xs : List Token). is_keyword (first_of xs)) h.front
in_front t ts (preference.With e) h = ap (λ (xs : List Token). is_keyword (first_of xs)) h.front

begins_not : (t : Token) → is_keyword t ≡ false → ViablePreference (t ∷ []) → ⊥
begins_not t is b = let h = in_front t b.more b.preference b.whole in absurd (cc)

nothing_begun : ViablePreference []
nothing_begun = record { more = []; spelled = tt; preference = preference.Empty; whole = refl }

abbrev number_of_word : Keyword → ℕ
number_of_word keyword.First = 0
number_of_word keyword.Random = 1
number_of_word keyword.Min = 2
number_of_word keyword.Max = 3
number_of_word keyword.With = 4

abbrev word_number : Token → ℕ
word_number (token.Keyword k) = number_of_word k
word_number t = 5

-- the number of the word in front
numbered : (ts xs : List Token) → ts ≡ xs → word_number (first_of ts) ≡ word_number (first_of xs)
numbered ts xs e = ap (λ (ys : List Token). word_number (first_of ys)) e

fault_early : (place : ℕ) (t : Token) → fault_of place 0 t ≡ fault.Syntax place
fault_early place (token.Operator o) = refl
fault_early place token.Within = refl
fault_early place token.Not = refl
fault_early place token.Exist = refl
fault_early place token.Open = refl
fault_early place token.Close = refl
fault_early place (token.Name n) = refl
fault_early place (token.Number n) = refl
fault_early place (token.Quoted t) = refl
fault_early place (token.Truth b) = refl
fault_early place (token.Keyword k) = refl

-- ---- a word that stands alone

alone_not : (k : Keyword) (t : Token) → number_of_word k < 2 → ViablePreference (token.Keyword k ∷ t ∷ []) → ⊥
alone_not k t low b = refused b.preference b.whole
  where
    refused : (p : Preference) → IsPreference (token.Keyword k ∷ t ∷ b.more) p → ⊥
    refused preference.Empty h = absurd cc
    refused preference.First h = let e : t ∷ b.more ≡ [] = ap others_of h in absurd cc
    refused preference.Random h = let e : t ∷ b.more ≡ [] = ap others_of h in absurd cc
    refused (preference.Min e) h = let n = numbered _ _ h.front in absurd (omega (arith, n, low))
    refused (preference.Max e) h = let n = numbered _ _ h.front in absurd (omega (arith, n, low))
    refused (preference.With e) h = let n = numbered _ _ h.front in absurd (omega (arith, n, low))

chooses_alone : (k : Keyword) (p : Preference) (place : ℕ) (rest : Tape) → number_of_word k < 2
    → IsPreference (token.Keyword k ∷ []) p → Chooses (Spot place (token.Keyword k) rest) (alone p rest)
chooses_alone k p place (Over end) low is = is
chooses_alone k p place (Broken f) low is = inr (record { more = []; spelled = tt; preference = p; whole = is }, refl)
chooses_alone k p place (Spot next t rest) low is =
    inr (inl (
      record { more = []; spelled = tt; preference = p; whole = is },
      (λ b. alone_not k t low b),
      sym (fault_early next t),
    ))

-- ---- a word with an expression

-- the preferences that begin with a word are those of an expression behind it
record Opens (k : Keyword) (make : Expr → Preference) : Type 0 where
  makes : (ts : List Token) (e : Expr) → Sentence ts e → IsPreference (token.Keyword k ∷ ts) (make e)
  made : (ts : List Token) (p : Preference) → IsPreference (token.Keyword k ∷ ts) p → (e : Expr) × Sentence ts e

follows : (k : Keyword) (ts : List Token) (e : Expr) → FollowsWord k (token.Keyword k ∷ ts) e → Sentence ts e
follows k ts e f =
    let same : ts ≡ f.rest = ap others_of f.front in subst (λ (xs : List Token). Sentence xs e) (sym same) f.sentence

min_opens : Opens keyword.Min (λ e. preference.Min e)
min_opens = record { makes = λ ts e s. record { rest = ts; front = refl; sentence = s }; made = made }
  where
    made : (ts : List Token) (p : Preference) → IsPreference (token.Keyword keyword.Min ∷ ts) p
        → (e : Expr) × Sentence ts e
    made ts preference.Empty h = absurd cc
    made ts preference.First h = let n = numbered _ _ h in absurd (omega (arith, n))
    made ts preference.Random h = let n = numbered _ _ h in absurd (omega (arith, n))
    made ts (preference.Min e) h = (e, follows keyword.Min ts e h)
    made ts (preference.Max e) h = let n = numbered _ _ h.front in absurd (omega (arith, n))
    made ts (preference.With e) h = let n = numbered _ _ h.front in absurd (omega (arith, n))

max_opens : Opens keyword.Max (λ e. preference.Max e)
max_opens = record { makes = λ ts e s. record { rest = ts; front = refl; sentence = s }; made = made }
  where
    made : (ts : List Token) (p : Preference) → IsPreference (token.Keyword keyword.Max ∷ ts) p
        → (e : Expr) × Sentence ts e
    made ts preference.Empty h = absurd cc
    made ts preference.First h = let n = numbered _ _ h in absurd (omega (arith, n))
    made ts preference.Random h = let n = numbered _ _ h in absurd (omega (arith, n))
    made ts (preference.Min e) h = let n = numbered _ _ h.front in absurd (omega (arith, n))
    made ts (preference.Max e) h = (e, follows keyword.Max ts e h)
    made ts (preference.With e) h = let n = numbered _ _ h.front in absurd (omega (arith, n))

with_opens : Opens keyword.With (λ e. preference.With e)
with_opens = record { makes = λ ts e s. record { rest = ts; front = refl; sentence = s }; made = made }
  where
    made : (ts : List Token) (p : Preference) → IsPreference (token.Keyword keyword.With ∷ ts) p
        → (e : Expr) × Sentence ts e
    made ts preference.Empty h = absurd cc
    made ts preference.First h = let n = numbered _ _ h in absurd (omega (arith, n))
    made ts preference.Random h = let n = numbered _ _ h in absurd (omega (arith, n))
    made ts (preference.Min e) h = let n = numbered _ _ h.front in absurd (omega (arith, n))
    made ts (preference.Max e) h = let n = numbered _ _ h.front in absurd (omega (arith, n))
    made ts (preference.With e) h = (e, follows keyword.With ts e h)

begun_so : (k : Keyword) (make : Expr → Preference) (ts : List Token) → Opens k make → Viable ts
    → ViablePreference (token.Keyword k ∷ ts)
begun_so k make ts o v = record {
  more = v.more;
  spelled = v.spelled;
  preference = make v.expr;
  whole = o.makes (ts ++ v.more) v.expr v.sentence;
}

viable_so : (k : Keyword) (make : Expr → Preference) (ts : List Token) → Opens k make
    → ViablePreference (token.Keyword k ∷ ts) → Viable ts
viable_so k make ts o b =
    let e = o.made (ts ++ b.more) b.preference b.whole in
    record { more = b.more; spelled = b.spelled; expr = e.0; sentence = e.1 }

whole_so : (k : Keyword) (make : Expr → Preference) (rest : Tape) (ts : List Token) (e : Expr) → Opens k make
    → CompletesTree ts rest e → WholePreference (token.Keyword k ∷ ts) rest (make e)
whole_so k make (Over place) ts e o w = o.makes ts e w
whole_so k make (Broken f) ts e o w = w
whole_so k make (Spot place t rest) ts e o w = whole_so k make rest (ts ++ t ∷ []) e o w

first_so : (k : Keyword) (make : Expr → Preference) (rest : Tape) (ts : List Token) (f : LangFault) → Opens k make
    → First ts rest f → FirstFault (token.Keyword k ∷ ts) rest f
first_so k make (Over place) ts f o h = (begun_so k make ts o h.0, (λ p is. let e = o.made ts p is in h.1 e.0 e.1), h.2)
first_so k make (Broken g) ts f o h = (begun_so k make ts o h.0, h.1)
first_so k make (Spot place t rest) ts f o (inl h) =
    inl (begun_so k make ts o h.0, (λ b. h.1 (viable_so k make (ts ++ t ∷ []) o b)), h.2)
first_so k make (Spot place t rest) ts f o (inr h) = inr (first_so k make rest (ts ++ t ∷ []) f o h)

chooses_with : (k : Keyword) (make : Expr → Preference) (place : ℕ) (rest : Tape) (r : Result Expr LangFault)
    → Opens k make → ParsesOrFaults [] rest r → Chooses (Spot place (token.Keyword k) rest) (r >>= λ e. Ok (make e))
chooses_with k make place rest (Ok e) o h = whole_so k make rest [] e o h
chooses_with k make place rest (Err f) o h = inr (first_so k make rest [] f o h)

chooses_behind : (k : Keyword) (place : ℕ) (rest : Tape) → Chooses (Spot place (token.Keyword k) rest) (behind k rest)
chooses_behind keyword.First place rest = chooses_alone keyword.First preference.First place rest (omega arith) refl
chooses_behind keyword.Random place rest = chooses_alone keyword.Random preference.Random place rest (omega arith) refl
chooses_behind keyword.Min place rest =
    chooses_with keyword.Min (λ e. preference.Min e) place rest (read_tape start rest) min_opens
    (answered rest [] start refl refl)
chooses_behind keyword.Max place rest =
    chooses_with keyword.Max (λ e. preference.Max e) place rest (read_tape start rest) max_opens
    (answered rest [] start refl refl)
chooses_behind keyword.With place rest =
    chooses_with keyword.With (λ e. preference.With e) place rest (read_tape start rest) with_opens
    (answered rest [] start refl refl)

chooses_not : (place : ℕ) (t : Token) (rest : Tape) → is_keyword t ≡ false
    → Chooses (Spot place t rest) (Err (fault.Syntax place))
chooses_not place t rest is = inl (nothing_begun, (λ b. begins_not t is b), sym (fault_early place t))

chooses_spotted : (place : ℕ) (t : Token) (rest : Tape) → Chooses (Spot place t rest) (spot_preference place t rest)
chooses_spotted place (token.Operator o) rest = chooses_not place (token.Operator o) rest refl
chooses_spotted place token.Within rest = chooses_not place token.Within rest refl
chooses_spotted place token.Not rest = chooses_not place token.Not rest refl
chooses_spotted place token.Exist rest = chooses_not place token.Exist rest refl
chooses_spotted place token.Open rest = chooses_not place token.Open rest refl
chooses_spotted place token.Close rest = chooses_not place token.Close rest refl
chooses_spotted place (token.Name n) rest = chooses_not place (token.Name n) rest refl
chooses_spotted place (token.Number n) rest = chooses_not place (token.Number n) rest refl
chooses_spotted place (token.Quoted t) rest = chooses_not place (token.Quoted t) rest refl
chooses_spotted place (token.Truth b) rest = chooses_not place (token.Truth b) rest refl
chooses_spotted place (token.Keyword k) rest = chooses_behind k place rest

chooses_so : (rest : Tape) → Chooses rest (tape_preference rest)
chooses_so (Over place) = refl
chooses_so (Broken f) = (nothing_begun, refl)
chooses_so (Spot place t rest) = chooses_spotted place t rest

-- a text is a preference or has a first fault, and the reader finds it
pub prefers_so : (text : List ℕ) → Prefers text (preference_of text)
prefers_so text = either (nat_lt 4096 (length text)) refl
  where
    either : (b : Bool) → nat_lt 4096 (length text) ≡ b
        → Prefers text (if b then Err fault.TooLong else tape_preference (tape 0 0 text))
    either true is = inl (ltb-true 4096 (length text) is, refl)
    either false is = inr (ltb-false 4096 (length text) is, chooses_so (tape 0 0 text))

pub said : (text : List ℕ) (r : Result Preference LangFault) → GivesFault (λ p. p) r (preference_of text)
    → UnlessMemory (Prefers text) r
said text r g = answered_so (λ q. Prefers text q) r (preference_of text) g (prefers_so text)

-- ---- a text has one answer

before_more : (ts : List Token) (t : Token) → HasSpelling t → ViablePreference (ts ++ t ∷ []) → ViablePreference ts
before_more ts t own b = record {
  more = t ∷ b.more;
  spelled = (own, b.spelled);
  preference = b.preference;
  whole = subst (λ (xs : List Token). IsPreference xs b.preference) (append_assoc ts (t ∷ []) b.more) b.whole;
}

whole_begun : (rest : Tape) (ts : List Token) (p : Preference) → AllOnTape rest → WholePreference ts rest p
    → ViablePreference ts
whole_begun (Over place) ts p own w = record {
  more = [];
  spelled = tt;
  preference = p;
  whole = subst (λ (xs : List Token). IsPreference xs p) (sym (append-nil ts)) w;
}
whole_begun (Broken f) ts p own w = absurd w
whole_begun (Spot place t rest) ts p own w = before_more ts t own.0 (whole_begun rest (ts ++ t ∷ []) p own.1 w)

first_begun : (rest : Tape) (ts : List Token) (f : LangFault) → AllOnTape rest → FirstFault ts rest f
    → ViablePreference ts
first_begun (Over place) ts f own h = h.0
first_begun (Broken g) ts f own h = h.0
first_begun (Spot place t rest) ts f own (inl h) = h.0
first_begun (Spot place t rest) ts f own (inr h) = before_more ts t own.0 (first_begun rest (ts ++ t ∷ []) f own.1 h)

choices : (rest : Tape) (ts : List Token) (p q : Preference) → WholePreference ts rest p → WholePreference ts rest q
    → p ≡ q
choices (Over place) ts p q h k = one_preference ts p q h k
choices (Broken g) ts p q h k = absurd h
choices (Spot place t rest) ts p q h k = choices rest (ts ++ t ∷ []) p q h k

choice_or_fault : (rest : Tape) (ts : List Token) (p : Preference) (f : LangFault) → AllOnTape rest
    → WholePreference ts rest p → FirstFault ts rest f → ⊥
choice_or_fault (Over place) ts p f own w h = h.1 p w
choice_or_fault (Broken g) ts p f own w h = w
choice_or_fault (Spot place t rest) ts p f own w (inl h) = h.1 (whole_begun rest (ts ++ t ∷ []) p own.1 w)
choice_or_fault (Spot place t rest) ts p f own w (inr h) = choice_or_fault rest (ts ++ t ∷ []) p f own.1 w h

faults : (rest : Tape) (ts : List Token) (f g : LangFault) → AllOnTape rest → FirstFault ts rest f
    → FirstFault ts rest g → f ≡ g
faults (Over place) ts f g own h k = h.2 ∙ sym k.2
faults (Broken x) ts f g own h k = h.1 ∙ sym k.1
faults (Spot place t rest) ts f g own (inl h) (inl k) = h.2 ∙ sym k.2
faults (Spot place t rest) ts f g own (inl h) (inr k) = absurd (h.1 (first_begun rest (ts ++ t ∷ []) g own.1 k))
faults (Spot place t rest) ts f g own (inr h) (inl k) = absurd (k.1 (first_begun rest (ts ++ t ∷ []) f own.1 h))
faults (Spot place t rest) ts f g own (inr h) (inr k) = faults rest (ts ++ t ∷ []) f g own.1 h k

one_chosen : (rest : Tape) (r q : Result Preference LangFault) → AllOnTape rest → Chooses rest r → Chooses rest q
    → r ≡ q
one_chosen rest (Ok p) (Ok q) own h k = ap (λ (x : Preference). Ok x) (choices rest [] p q h k)
one_chosen rest (Ok p) (Err g) own h k = absurd (choice_or_fault rest [] p g own h k)
one_chosen rest (Err f) (Ok p) own h k = absurd (choice_or_fault rest [] p f own k h)
one_chosen rest (Err f) (Err g) own h k = ap (λ (x : LangFault). Err x) (faults rest [] f g own h k)

pub one_said : (text : List ℕ) (r q : Result Preference LangFault) → Prefers text r → Prefers text q → r ≡ q
one_said text r q (inl h) (inl k) = h.1 ∙ sym k.1
one_said text r q (inl h) (inr k) = absurd (omega (arith, h.0, k.0))
one_said text r q (inr h) (inl k) = absurd (omega (arith, h.0, k.0))
one_said text r q (inr h) (inr k) = one_chosen (tape 0 0 text) r q (tape_kept text 0 0) h.1 k.1
