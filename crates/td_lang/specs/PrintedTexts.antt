-- Trading Object Service, appendix "OMG Constraint Language BNF", and "Preferences".
-- The texts of constraints and preferences.
use Rattle.std.specs.Prelude.{◌≡◌, ◌≤◌, ℕ, List, [], ◌∷◌, length, Result, Ok}
use Rattle.td_lang.specs.declared.expr.Constraint.{Constraint}
use Rattle.td_lang.specs.declared.expr.Constraint.TheVariants as constraint
use Rattle.td_lang.specs.declared.expr.Preference.{Preference}
use Rattle.td_lang.specs.declared.expr.Preference.TheVariants as preference
use Rattle.td_lang.specs.declared.fault.LangFault.{LangFault}
use Rattle.td_lang.specs.declared.token.Keyword.TheVariants as keyword
use Rattle.td_lang.specs.declared.token.Token.{Token}
use Rattle.td_lang.specs.declared.token.Token.TheVariants as token
use Rattle.td_lang.specs.Grammar.{tokens}
use Rattle.td_lang.specs.Printing.{phrase_of, put_all, CanBeRead}

abbrev pub constraint_tokens : Constraint → List Token
constraint_tokens constraint.Empty = []
constraint_tokens (constraint.Is e) = tokens (phrase_of e 1)

abbrev pub preference_tokens : Preference → List Token
preference_tokens preference.Empty = []
preference_tokens preference.First = token.Keyword keyword.First ∷ []
preference_tokens preference.Random = token.Keyword keyword.Random ∷ []
preference_tokens (preference.Min e) = token.Keyword keyword.Min ∷ tokens (phrase_of e 1)
preference_tokens (preference.Max e) = token.Keyword keyword.Max ∷ tokens (phrase_of e 1)
preference_tokens (preference.With e) = token.Keyword keyword.With ∷ tokens (phrase_of e 1)

abbrev pub constraint_text : Constraint → List ℕ
constraint_text c = put_all [] (constraint_tokens c)

abbrev pub preference_text : Preference → List ℕ
preference_text p = put_all [] (preference_tokens p)

-- a text that isn't too long is read as this
abbrev pub IsReadAs : {X : Type 0} → (List ℕ → Result X LangFault) → List ℕ → X → Type 0
IsReadAs read text x = length text ≤ 4096 → read text ≡ Ok x

abbrev pub ConstraintCanBeRead : Constraint → Type 0
ConstraintCanBeRead constraint.Empty = Unit {0}
ConstraintCanBeRead (constraint.Is e) = CanBeRead e

abbrev pub PreferenceCanBeRead : Preference → Type 0
PreferenceCanBeRead preference.Empty = Unit {0}
PreferenceCanBeRead preference.First = Unit {0}
PreferenceCanBeRead preference.Random = Unit {0}
PreferenceCanBeRead (preference.Min e) = CanBeRead e
PreferenceCanBeRead (preference.Max e) = CanBeRead e
PreferenceCanBeRead (preference.With e) = CanBeRead e
