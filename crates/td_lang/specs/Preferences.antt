-- Trading Object Service, "Preferences", and the appendix "OMG Constraint Language BNF".
-- A preference is empty, `first`, `random`, or `min`, `max` or `with` and an expression. What a text says as a
-- preference.
use Rattle.std.specs.Prelude.{◌≡◌, ℕ, ◌<◌, ◌≤◌, nat_lt, if◌then◌else◌, List, [], ◌∷◌, ◌++◌, length, drop, ◌⊎◌, Option}
use Rattle.std.specs.Prelude.{None, Some, Result, Ok, Err}
use Rattle.td_lang.specs.declared.expr.Expr.{Expr}
use Rattle.td_lang.specs.declared.expr.Preference.{Preference}
use Rattle.td_lang.specs.declared.expr.Preference.TheVariants as preference
use Rattle.td_lang.specs.declared.token.Keyword.{Keyword}
use Rattle.td_lang.specs.declared.token.Keyword.TheVariants as keyword
use Rattle.td_lang.specs.declared.token.Token.{Token}
use Rattle.td_lang.specs.declared.token.Token.TheVariants as token
use Rattle.td_lang.specs.declared.fault.LangFault.{LangFault}
use Rattle.td_lang.specs.declared.fault.LangFault.TheVariants as fault
use Rattle.td_lang.specs.FirstFaults.{open_count, fault_of}
use Rattle.td_lang.specs.Grammar.{Sentence}
use Rattle.td_lang.specs.Lexing.{AllSpelled}
use Rattle.td_lang.specs.Reading.{start}
use Rattle.td_lang.specs.Tape.{Tape, Over, Broken, Spot, tape, read_tape, ◌>>=◌}

-- a word, and then an expression of this tree
pub record FollowsWord (word : Keyword) (ts : List Token) (e : Expr) : Type 0 where
  pub rest : List Token
  pub front : ts ≡ token.Keyword word ∷ rest
  pub sentence : Sentence rest e

-- the tokens are this preference
abbrev pub IsPreference : List Token → Preference → Type 0
IsPreference ts preference.Empty = ts ≡ []
IsPreference ts preference.First = ts ≡ token.Keyword keyword.First ∷ []
IsPreference ts preference.Random = ts ≡ token.Keyword keyword.Random ∷ []
IsPreference ts (preference.Min e) = FollowsWord keyword.Min ts e
IsPreference ts (preference.Max e) = FollowsWord keyword.Max ts e
IsPreference ts (preference.With e) = FollowsWord keyword.With ts e

-- some preference begins so, and goes on by tokens that have a spelling
pub record ViablePreference (ts : List Token) : Type 0 where
  pub more : List Token
  pub spelled : AllSpelled more
  pub preference : Preference
  pub whole : IsPreference (ts ++ more) preference

-- after these tokens, the rest makes this preference
abbrev pub WholePreference : List Token → Tape → Preference → Type 0
WholePreference ts (Over place) p = IsPreference ts p
WholePreference ts (Broken f) p = ⊥
WholePreference ts (Spot place t rest) p = WholePreference (ts ++ t ∷ []) rest p

-- after these tokens, this is the first fault: some preference begins with what stands before it, and none with it
abbrev pub FirstFault : List Token → Tape → LangFault → Type 0
FirstFault ts (Over place) f =
    ViablePreference ts × ((p : Preference) → IsPreference ts p → ⊥) × (f ≡ fault.Syntax place)
FirstFault ts (Broken g) f = ViablePreference ts × (f ≡ g)
FirstFault ts (Spot place t rest) f =
    (ViablePreference ts × (ViablePreference (ts ++ t ∷ []) → ⊥)
    × (f ≡ fault_of place (open_count 0 ts) t)) ⊎ FirstFault (ts ++ t ∷ []) rest f

abbrev pub Chooses : Tape → Result Preference LangFault → Type 0
Chooses rest (Ok p) = WholePreference [] rest p
Chooses rest (Err f) = FirstFault [] rest f

-- the preference of a text, or its first fault in reading order, by the grammar
abbrev pub Prefers : List ℕ → Result Preference LangFault → Type 0
Prefers text r = ((4096 < length text) × (r ≡ Err fault.TooLong))
    ⊎ ((length text ≤ 4096) × Chooses (tape 0 0 text) r)

-- ---- the same as the reader finds it

-- the preference, where no token follows
abbrev pub alone : Preference → Tape → Result Preference LangFault
alone p (Over place) = Ok p
alone p (Broken f) = Err f
alone p (Spot place t rest) = Err (fault.Syntax place)

abbrev pub behind : Keyword → Tape → Result Preference LangFault
behind keyword.First rest = alone preference.First rest
behind keyword.Random rest = alone preference.Random rest
behind keyword.Min rest = read_tape start rest >>= λ e. Ok (preference.Min e)
behind keyword.Max rest = read_tape start rest >>= λ e. Ok (preference.Max e)
behind keyword.With rest = read_tape start rest >>= λ e. Ok (preference.With e)

abbrev pub spot_preference : ℕ → Token → Tape → Result Preference LangFault
spot_preference place (token.Keyword word) rest = behind word rest
spot_preference place t rest = Err (fault.Syntax place)

abbrev pub tape_preference : Tape → Result Preference LangFault
tape_preference (Over place) = Ok preference.Empty
tape_preference (Broken f) = Err f
tape_preference (Spot place t rest) = spot_preference place t rest

abbrev pub preference_of : List ℕ → Result Preference LangFault
preference_of text = if nat_lt 4096 (length text) then Err fault.TooLong else tape_preference
    (tape 0 0 text)

-- What a look at a text's next token answers: none is left, or its place, the token and where the text goes on, or no
-- token stands there.
abbrev pub LooksAhead : List ℕ → Tape → Result (Option (ℕ × Token × ℕ)) LangFault → Type 0
LooksAhead text found (Ok None) = (place : ℕ) × (found ≡ Over place)
LooksAhead text found (Ok (Some t)) = found ≡ Spot t.0 t.1 (tape 0 t.2 (drop t.2 text))
LooksAhead text found (Err fault.Memory) = Unit {0}
LooksAhead text found (Err f) = found ≡ Broken f
