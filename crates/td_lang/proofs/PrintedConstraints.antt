-- Constraints and preferences that are printed are read again.
use Rattle.std.proofs.Common.{pos, neg_ℤ, zero, suc, ◌≡◌, ℕ, ◌+◌, ◌^◌, ◌<◌, ◌≤◌, true, List, [], ◌∷◌, ◌++◌, length, inl}
use Rattle.std.proofs.Common.{inr, Result, Ok, refl, sym, ap, subst, ◌∙◌, arith}
use Rattle.std.proofs.lemmas.Bool.{le-ltb, lt-ltb}
use Rattle.td_lang.specs.declared.expr.Expr.{Expr}
use Rattle.td_lang.specs.declared.expr.Constraint.{Constraint}
use Rattle.td_lang.specs.declared.expr.Constraint.TheVariants as constraint
use Rattle.td_lang.specs.declared.expr.Preference.{Preference}
use Rattle.td_lang.specs.declared.expr.Preference.TheVariants as preference
use Rattle.td_lang.specs.declared.token.Keyword.{Keyword}
use Rattle.td_lang.specs.declared.token.Keyword.TheVariants as keyword
use Rattle.td_lang.specs.declared.token.Token.{Token}
use Rattle.td_lang.specs.declared.token.Token.TheVariants as token
use Rattle.td_lang.specs.declared.fault.LangFault.{LangFault}
use Rattle.td_lang.specs.Constraints.{IsTreeOrFault, ParsesConstraint, Says, tape_constraint, constraint_of}
use Rattle.td_lang.specs.FirstFaults.{CompletesTree}
use Rattle.td_lang.specs.Grammar.{Phrase, Operation, Within, Negation, Existence, PropertyName, Numeral, Negative}
use Rattle.td_lang.specs.Grammar.{Quoted, Truth, Parenthesis, tokens, tree, Shallow, Sentence}
use Rattle.td_lang.specs.Lexing.{HasSpelling, AllSpelled}
use Rattle.td_lang.specs.Preferences.{FollowsWord, IsPreference, WholePreference, Prefers, behind, tape_preference}
use Rattle.td_lang.specs.Preferences.{preference_of}
use Rattle.td_lang.specs.Printing.{bytes_of, put_all, phrase_of, plain, plain_number, HasNoParentheses, CanBeRead}
use Rattle.td_lang.specs.PrintedTexts.{constraint_text, preference_text, ConstraintCanBeRead, PreferenceCanBeRead}
use Rattle.td_lang.specs.Reading.{start, read}
use Rattle.td_lang.specs.Tape.{Tape, Over, Broken, Spot, tape, read_tape, ◌>>=◌}
use Rattle.td_lang.proofs.Completeness.{reads}
use Rattle.td_lang.proofs.Uniqueness.{says_so}
use Rattle.td_lang.proofs.TapeSpelling.{AllOnTape, tape_kept}
use Rattle.td_lang.proofs.PlainTrees.{spelled-append, spelled-front, spelled-back, plain-spelled, plain-Binary}
use Rattle.td_lang.proofs.PlainTrees.{plain-Within, plain-Not, plain-Exist, plain-Name, plain-Number, plain-Str}
use Rattle.td_lang.proofs.PlainTrees.{plain-Truth}
use Rattle.td_lang.proofs.PreferenceReading.{prefers_so}
use Rattle.td_lang.proofs.PrintedPhrases.{is_read, least}
use Rattle.td_lang.proofs.RoundTrip.{apart, tape_token, row_reads, put_first, put_reads}
use Rattle.td_lang.proofs.PrintedTokens.{row_of}

-- the first of printed tokens stands on the tape
first_on : (t : Token) (ts : List Token) → HasSpelling t
    → tape 0 0 (put_all [] (t ∷ ts)) ≡ Spot 0 t (tape 0 (0 + length (bytes_of t)) (row_of ts))
first_on t ts spelled =
    ap (λ (x : List ℕ). tape 0 0 x) (put_first t ts spelled) ∙ tape_token t (row_of ts) 0 spelled (apart ts)

-- ---- what is printed is read

asked_back : (ts : List Token) (e : Expr) → AllSpelled ts → read ts ≡ Ok e
    → tape_constraint (tape 0 0 (put_all [] ts)) ≡ Ok (constraint.Is e)
asked_back [] e a h = absurd (cc)
asked_back (t ∷ ts) e a h =
    let on = first_on t ts a.0 in
    let reads_so : read_tape start (Spot 0 t (tape 0 (0 + length (bytes_of t)) (row_of ts))) ≡ Ok e =
    ap (λ (x : Tape). read_tape start x) (sym on) ∙ put_reads (t ∷ ts) e a h in
    ap (λ (x : Tape). tape_constraint x) on
    ∙ ap (λ (r : Result Expr LangFault). r >>= λ x. Ok (constraint.Is x)) reads_so

pub constraint_back : (c : Constraint) → ConstraintCanBeRead c → length (constraint_text c) ≤ 4096
    → constraint_of (constraint_text c) ≡ Ok c
constraint_back constraint.Empty can short = refl
constraint_back (constraint.Is e) can short =
    let ts = tokens (phrase_of e 1) in
    rw (le-ltb 4096 (length (put_all [] ts)) short)
    (asked_back ts e (plain-spelled e 1 can.0) (reads ts e (is_read e can.1)))

word_alone : (k : Keyword) (p : Preference) → behind k (Over (0 + length (bytes_of (token.Keyword k)))) ≡ Ok p
    → tape_preference (tape 0 0 (put_all [] (token.Keyword k ∷ []))) ≡ Ok p
word_alone k p h = ap (λ (x : Tape). tape_preference x) (first_on (token.Keyword k) [] tt) ∙ h

word_with : (k : Keyword) (e : Expr) (make : Expr → Preference)
    → ((rest : Tape) → behind k rest ≡ (read_tape start rest >>= λ x. Ok (make x))) → CanBeRead e
    → tape_preference (tape 0 0 (put_all [] (token.Keyword k ∷ tokens (phrase_of e 1)))) ≡ Ok (make e)
word_with k e make behaves can =
    let ts = tokens (phrase_of e 1) in
    let size = 0 + length (bytes_of (token.Keyword k)) in
    let found : read_tape start (tape 0 size (row_of ts)) ≡ Ok e =
    row_reads ts start size e (plain-spelled e 1 can.0) (reads ts e (is_read e can.1)) in
    ap (λ (x : Tape). tape_preference x) (first_on (token.Keyword k) ts tt) ∙ behaves (tape 0 size (row_of ts))
    ∙ ap (λ (r : Result Expr LangFault). r >>= λ x. Ok (make x)) found

chosen_back : (p : Preference) → PreferenceCanBeRead p → tape_preference (tape 0 0 (preference_text p)) ≡ Ok p
chosen_back preference.Empty can = refl
chosen_back preference.First can = word_alone keyword.First preference.First refl
chosen_back preference.Random can = word_alone keyword.Random preference.Random refl
chosen_back (preference.Min e) can = word_with keyword.Min e (λ x. preference.Min x) (λ rest. refl) can
chosen_back (preference.Max e) can = word_with keyword.Max e (λ x. preference.Max x) (λ rest. refl) can
chosen_back (preference.With e) can = word_with keyword.With e (λ x. preference.With x) (λ rest. refl) can

pub preference_back : (p : Preference) → PreferenceCanBeRead p → length (preference_text p) ≤ 4096
    → preference_of (preference_text p) ≡ Ok p
preference_back p can short = rw (le-ltb 4096 (length (preference_text p)) short) (chosen_back p can)

-- ---- what was read can be printed and read again

opposed_plain : (n : ℕ) → n < 2 ^ 63 → plain_number (neg_ℤ (pos n)) ≡ true
opposed_plain zero h = refl
opposed_plain (suc n) h = lt-ltb (suc n) (2 ^ 63) h

spelled-plain : (c : Phrase) → AllSpelled (tokens c) → plain (tree c) ≡ true
spelled-plain (Operation o a b) s =
    let x = spelled-plain a (spelled-front (tokens a) (token.Operator o ∷ tokens b) s) in
    let y = spelled-plain b (spelled-back (tokens a) (token.Operator o ∷ tokens b) s).1 in
    plain-Binary o (tree a) (tree b) ∙ rw x y
spelled-plain (Within a n) s =
    let x = spelled-plain a (spelled-front (tokens a) (token.Within ∷ token.Name n ∷ []) s) in
    plain-Within (tree a) n ∙ rw x ((spelled-back (tokens a) (token.Within ∷ token.Name n ∷ []) s).1.0)
spelled-plain (Negation a) s = plain-Not (tree a) ∙ spelled-plain a s.1
spelled-plain (Existence n) s = plain-Exist n ∙ s.1.0
spelled-plain (PropertyName n) s = plain-Name n ∙ s.0
spelled-plain (Numeral n) s = plain-Number (pos n) ∙ lt-ltb n (2 ^ 63) s.0
spelled-plain (Negative n) s = plain-Number (neg_ℤ (pos n)) ∙ opposed_plain n s.1.0
spelled-plain (Quoted t) s = plain-Str t
spelled-plain (Truth b) s = plain-Truth b
spelled-plain (Parenthesis a) s = spelled-plain a (spelled-front (tokens a) (token.Close ∷ []) s.1)

sentence_can : (ts : List Token) (e : Expr) → AllSpelled ts → Sentence ts e → CanBeRead e
sentence_can ts e a s =
    let own = spelled-plain s.phrase (subst AllSpelled (sym s.spelled) a) in (
      subst HasNoParentheses s.tree_is own,
      subst (λ (x : Expr). Shallow 64 (phrase_of x 1)) s.tree_is (least s.phrase 1 64 (omega arith) s.fits s.shallow),
    )

one_more : (ts : List Token) (t : Token) → AllSpelled ts → HasSpelling t → AllSpelled (ts ++ t ∷ [])
one_more ts t a h = spelled-append ts (t ∷ []) a (h, tt)

whole_can : (rest : Tape) (ts : List Token) (e : Expr) → AllSpelled ts → AllOnTape rest → CompletesTree ts rest e → CanBeRead e
whole_can (Over place) ts e a own w = sentence_can ts e a w
whole_can (Broken f) ts e a own w = absurd w
whole_can (Spot place t rest) ts e a own w = whole_can rest (ts ++ t ∷ []) e (one_more ts t a own.0) own.1 w

made_can : (rest : Tape) (c : Constraint) → AllOnTape rest → IsTreeOrFault rest (Ok c) → ConstraintCanBeRead c
made_can rest constraint.Empty own m = absurd m
made_can rest (constraint.Is e) own m = whole_can rest [] e tt own m

empty_can : (c : Constraint) (r : Result Constraint LangFault) → r ≡ Ok constraint.Empty → r ≡ Ok c
    → ConstraintCanBeRead c
empty_can constraint.Empty r h k = tt
empty_can (constraint.Is e) r h k = let both = sym h ∙ k in absurd (cc)

asks_can : (rest : Tape) (c : Constraint) → AllOnTape rest → ParsesConstraint rest (Ok c) → ConstraintCanBeRead c
asks_can (Over place) c own h = empty_can c (Ok c) h refl
asks_can (Broken f) c own h = made_can (Broken f) c own h
asks_can (Spot place t rest) c own h = made_can (Spot place t rest) c own h

says_can : (text : List ℕ) (c : Constraint) → Says text (Ok c) → ConstraintCanBeRead c
says_can text c (inl h) = let no = h.1 in absurd (cc)
says_can text c (inr h) = asks_can (tape 0 0 text) c (tape_kept text 0 0) h.1

pub constraint_can : (text : List ℕ) (c : Constraint) → constraint_of text ≡ Ok c → ConstraintCanBeRead c
constraint_can text c h = says_can text c (subst (λ (r : Result Constraint LangFault). Says text r) h (says_so text))

follows_can : (k : Keyword) (ts : List Token) (e : Expr) → AllSpelled ts → FollowsWord k ts e → CanBeRead e
follows_can k ts e a f =
    let own : AllSpelled (token.Keyword k ∷ f.rest) = subst AllSpelled f.front a in
    sentence_can f.rest e own.1 f.sentence

preferred_can : (ts : List Token) (p : Preference) → AllSpelled ts → IsPreference ts p → PreferenceCanBeRead p
preferred_can ts preference.Empty a h = tt
preferred_can ts preference.First a h = tt
preferred_can ts preference.Random a h = tt
preferred_can ts (preference.Min e) a h = follows_can keyword.Min ts e a h
preferred_can ts (preference.Max e) a h = follows_can keyword.Max ts e a h
preferred_can ts (preference.With e) a h = follows_can keyword.With ts e a h

chosen_can : (rest : Tape) (ts : List Token) (p : Preference) → AllSpelled ts → AllOnTape rest
    → WholePreference ts rest p → PreferenceCanBeRead p
chosen_can (Over place) ts p a own w = preferred_can ts p a w
chosen_can (Broken f) ts p a own w = absurd w
chosen_can (Spot place t rest) ts p a own w = chosen_can rest (ts ++ t ∷ []) p (one_more ts t a own.0) own.1 w

prefers_can : (text : List ℕ) (p : Preference) → Prefers text (Ok p) → PreferenceCanBeRead p
prefers_can text p (inl h) = let no = h.1 in absurd (cc)
prefers_can text p (inr h) = chosen_can (tape 0 0 text) [] p tt (tape_kept text 0 0) h.1

pub preference_can : (text : List ℕ) (p : Preference) → preference_of text ≡ Ok p → PreferenceCanBeRead p
preference_can text p h =
    prefers_can text p (subst (λ (r : Result Preference LangFault). Prefers text r) h (prefers_so text))
