-- Worked examples: lines of a log, and how a log is cut into them.
use Rattle.std.specs.Prelude.{◌≡◌, ℕ, List, [], ◌∷◌, ◌++◌, codes, Some, None}
use Rattle.std.specs.Option.{option_map}
use Rattle.td_typecode.specs.declared.code.TypeCode.TheVariants as code
use Rattle.td_typecode.specs.declared.code.Value.TheVariants as value
use Rattle.td_ior.specs.Nil.{nil}
use Rattle.td_log.specs.Lines.{line_of, words_of}
use Rattle.td_log.specs.Messages.{octets_of}
use Rattle.td_log.specs.Words.{lines_of}
use Rattle.td_log.specs.declared.line.Line.{Line}
use Rattle.td_log.specs.declared.line.Line.TheVariants.{Deliver, Value, Reply}

-- one trader
abbrev pub names : List (List ℕ)
names = codes "A" ∷ []

pub record WorkedEvents : Type 0 where
  pub deliver : line_of names (codes "deliver 3") ≡ Some (Deliver 3)
  pub zero_in_front : line_of names (codes "deliver 03") ≡ None
  pub two_spaces : line_of names (codes "deliver  3") ≡ None
  pub space_behind : line_of names (codes "deliver 3 ") ≡ None
  pub number_missing : line_of names (codes "deliver") ≡ None
  pub no_value : line_of names (codes "value 2 -") ≡ Some (Value 2 None)
  -- words stand in the first line alone
  pub late_words : line_of names (codes "words 7") ≡ None
  pub words : words_of (codes "words 7 0") ≡ Some (7 ∷ 0 ∷ [])

-- an any of the type unsigned long: its value is 7
abbrev pub seven : List ℕ
seven = codes "0000000500000007"

pub record WorkedValues : Type 0 where
  pub whole : line_of names (codes "value 2 " ++ seven)
      ≡ Some (Value 2 (Some (record { code = code.ULong; value = value.ULong 7 })))
  pub cut : line_of names (codes "value 2 00000005000000") ≡ None
  pub more : line_of names (codes "value 2 " ++ seven ++ codes "00") ≡ None

-- a Reply with a system exception whose id is empty
abbrev pub content : List ℕ
content = codes "47494f50010000010000001c0000000000000007000000020000000100000000"
    ++ codes "0000000000000001"

-- the line of a Reply of call 0 that has no iterator
abbrev pub answer_line : (message : List ℕ) → Line
answer_line message = Reply 0 (record { bytes = message; iterator = nil })

pub record WorkedMessages : Type 0 where
  -- no trader has the name
  pub unknown_trader : line_of names (codes "ask B 00") ≡ None
  -- no message
  pub no_message : line_of names (codes "ask A 00") ≡ None
  -- a Reply that its header says is one byte longer
  pub cut : line_of names (codes "reply 0 47494f50010000010000000200") ≡ None
  -- a whole one whose own header is cut off
  pub head_cut : line_of names (codes "reply 0 47494f50010000010000000100") ≡ None
  pub whole : line_of names (codes "reply 0 " ++ content) ≡ option_map answer_line
      (octets_of content)

pub record WorkedLogs : Type 0 where
  pub empty : lines_of [] ≡ []
  pub ended : lines_of (codes "a" ++ 10 ∷ codes "b" ++ 10 ∷ []) ≡ codes "a" ∷ codes "b" ∷ []
  pub unended : lines_of (codes "a" ++ 10 ∷ codes "b") ≡ codes "a" ∷ codes "b" ∷ []
  -- a line without a word is a line
  pub gap : lines_of (10 ∷ []) ≡ [] ∷ []
