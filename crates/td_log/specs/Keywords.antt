-- The first word of a line, which says what it records.
use Rattle.std.specs.Prelude.{ℕ, List, [], ◌∷◌, codes, Option, Some}
use Rattle.td_cdr.specs.Format.{value_named}
use Rattle.td_ior.specs.Keys.{◌>>=◌}
use Rattle.td_log.specs.Words.{cut_word}
use Rattle.td_log.specs.declared.keyword.Keyword.{Keyword}
use Rattle.td_log.specs.declared.keyword.Keyword.TheVariants.{Words, Change, Look, Ask, Deliver, Value, Answer, Lose}
use Rattle.td_log.specs.declared.keyword.Keyword.TheVariants.{Reply}

abbrev pub keyword_name : Keyword → List ℕ
keyword_name Words = codes "words"
keyword_name Change = codes "change"
keyword_name Look = codes "look"
keyword_name Ask = codes "ask"
keyword_name Deliver = codes "deliver"
keyword_name Value = codes "value"
keyword_name Answer = codes "answer"
keyword_name Lose = codes "lose"
keyword_name Reply = codes "reply"

abbrev pub keywords : List Keyword
keywords = Words ∷ Change ∷ Look ∷ Ask ∷ Deliver ∷ Value ∷ Answer ∷ Lose ∷ Reply ∷ []

-- what the first word says, and what stands behind the space after it
unfoldable pub begin_of : List ℕ → Option (Keyword × List ℕ)
begin_of line = do
  cut ← cut_word line
  keyword ← value_named keyword_name keywords cut.0
  Some (keyword, cut.1)
