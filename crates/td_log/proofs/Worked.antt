-- Worked examples.
use Rattle.std.proofs.Common.{Option, Some, ap, refl}
use Rattle.std.specs.Option.{option_map}
use Rattle.std.specs.Prelude.{⊤}
use Rattle.hex.specs.Hex.{decode_pairs}
use Rattle.td_typecode.specs.declared.code.Any.{Any}
use Rattle.td_cdr.specs.Reading.{cell_at, number_at, octets_at, string_at}
use Rattle.td_giop.specs.Header.{header_at}
use Rattle.td_giop.specs.Heads.{reply_at}
use Rattle.td_ior.specs.Number.{number_below}
use Rattle.td_log.specs.Examples.{WorkedEvents, WorkedLogs, WorkedMessages, WorkedValues}
use Rattle.td_log.specs.Keywords.{begin_of}
use Rattle.td_log.specs.Lines.{ask_of, line_of, reply_line, value_of, words_of}
use Rattle.td_log.specs.Messages.{header_of, reply_in, reply_of, request_of}
use Rattle.td_log.specs.Words.{cut_word, lines_of, numbers_of, two_words}
use Rattle.td_log.specs.declared.line.Line.{Line}
use Rattle.td_log.specs.declared.line.Line.TheVariants.{Value}
use Rattle.td_log.proofs.Anys.{cut, more, whole}

-- what an answer unfolds to read a line that is written out
unfoldable pub lines_on_literals : ⊤
unfolding line_of words_of begin_of cut_word two_words numbers_of value_of number_below ask_of reply_line decode_pairs
lines_on_literals = tt

-- what one unfolds to read its message too
unfoldable pub messages_on_literals : ⊤
unfolding lines_on_literals request_of reply_of header_of header_at reply_in reply_at number_at cell_at string_at octets_at
messages_on_literals = tt

pub events : WorkedEvents
unfolding lines_on_literals
events = record {
  deliver = refl;
  zero_in_front = refl;
  two_spaces = refl;
  space_behind = refl;
  number_missing = refl;
  no_value = refl;
  late_words = refl;
  words = refl;
}

-- the line of the value of call 2
abbrev value_read : Option Any → Option Line
value_read v = option_map (λ w. Value 2 w) (option_map (λ w. Some w) v)

pub values : WorkedValues
unfolding lines_on_literals
values = record { whole = ap value_read whole; cut = ap value_read cut; more = ap value_read more }

pub messages : WorkedMessages
unfolding messages_on_literals
messages = record { unknown_trader = refl; no_message = refl; cut = refl; head_cut = refl; whole = refl }

pub logs : WorkedLogs
unfolding lines_of
logs = record { empty = refl; ended = refl; unended = refl; gap = refl }
