-- The lines of a log, read by themselves: what a line records is told by its bytes and by the names of the traders
-- alone, whatever stands in front of it.
use Rattle.std.specs.Prelude.{ℕ, List, codes, if◌then◌else◌, Option, Some, None, Ok, Err}
use Rattle.std.specs.List.{position}
use Rattle.std.specs.Option.{option_map}
use Rattle.std.specs.Str.{bytes_eq}
use Rattle.td_cdr.specs.Format.{Read}
use Rattle.td_cdr.specs.Place.{At}
use Rattle.td_cdr.specs.declared.order.Order.TheVariants.{Big}
use Rattle.td_cdr.specs.declared.value_fault.ValueFault.{ValueFault}
use Rattle.td_typecode.specs.Values.{any_value}
use Rattle.td_typecode.specs.declared.code.Any.{Any}
use Rattle.td_ior.specs.Keys.{◌>>=◌}
use Rattle.td_ior.specs.Number.{number_of}
use Rattle.td_ops.specs.Called.{operation_in}
use Rattle.td_ops.specs.declared.call.Call.{Call}
use Rattle.td_ops.specs.declared.call.Call.TheVariants as call
use Rattle.td_ops.specs.declared.operation.Operation.TheVariants.{Query}
use Rattle.td_log.specs.Keywords.{begin_of}
use Rattle.td_log.specs.Messages.{octets_of, parse_reply, parse_request}
use Rattle.td_log.specs.Words.{is_empty, numbers_of, one_number, three_words, two_words}
use Rattle.td_log.specs.declared.exchange.LoggedCall.{LoggedCall}
use Rattle.td_log.specs.declared.keyword.Keyword.{Keyword}
use Rattle.td_log.specs.declared.keyword.Keyword.TheVariants as keyword
use Rattle.td_log.specs.declared.line.Line.{Line}
use Rattle.td_log.specs.declared.line.Line.TheVariants.{Change, AddLink, Look, Ask, Deliver, Value, Answer, Lose, Reply}
use Rattle.td_log.specs.declared.message.Recorded.{Recorded}
use Rattle.td_log.specs.declared.message.ReplyForm.{ReplyForm}

-- the number of the trader of a name
abbrev pub trader_named : (names : List (List ℕ)) → (name : List ℕ) → Option ℕ
trader_named names name = position (λ n. bytes_eq n name) names

-- ---- `change TRADER REQUEST REPLY` and `look TRADER REQUEST REPLY`

-- a call of an object of a trader, with its reply
abbrev pub exchange : (trader : ℕ) → ReplyForm × Call → Recorded → LoggedCall
exchange trader asked reply = record {
  trader = trader;
  form = asked.0;
  call = asked.1;
  reply = reply;
}

-- the reply to a call, in hexadecimal digits
abbrev pub replied_with : (trader : ℕ) → (reply : List ℕ) → ReplyForm × Call → Option LoggedCall
replied_with trader reply asked =
    option_map (exchange trader asked) (parse_reply (operation_in asked.1) reply)

-- a Request to the trader of this number and name and its reply, in hexadecimal digits
abbrev pub exchange_with : (trader : ℕ) → (name request reply : List ℕ) → Option LoggedCall
exchange_with trader name request reply = parse_request name request >>= replied_with trader reply

-- TRADER REQUEST REPLY
unfoldable pub exchange_of : (names : List (List ℕ)) → (text : List ℕ) → Option LoggedCall
exchange_of names text = do
  words ← three_words text
  trader ← trader_named names words.0
  exchange_with trader words.0 words.1 words.2

-- a change, or a link that is added
abbrev pub change_by : (trader : ℕ) → ReplyForm → Recorded → Call → Option Line
change_by trader form reply (call.Change c) = Some (Change trader form c reply)
change_by trader form reply (call.AddLink l) = Some (AddLink trader form l reply)
change_by trader form reply other = None

abbrev pub look_by : (trader : ℕ) → ReplyForm → Recorded → Call → Option Line
look_by trader form reply (call.Look l) = Some (Look trader form l reply)
look_by trader form reply other = None

abbrev pub change_in : LoggedCall → Option Line
change_in e = change_by e.trader e.form e.reply e.call

abbrev pub look_in : LoggedCall → Option Line
look_in e = look_by e.trader e.form e.reply e.call

-- ---- `ask TRADER REQUEST`

abbrev pub ask_by : (trader : ℕ) → ReplyForm → Call → Option Line
ask_by trader form (call.Query q) = Some (Ask trader form q)
ask_by trader form other = None

abbrev pub ask_with : (trader : ℕ) → (name request : List ℕ) → Option Line
ask_with trader name request = parse_request name request >>= λ asked. ask_by trader asked.0 asked.1

unfoldable pub ask_of : (names : List (List ℕ)) → (text : List ℕ) → Option Line
ask_of names text = do
  words ← two_words text
  trader ← trader_named names words.0
  ask_with trader words.0 words.1

-- ---- `value CALL ANY` and `value CALL -`

-- big-endian, from place 0 on
abbrev pub start : (octets : List ℕ) → At
start octets = record { rest = octets; place = 0; origin = 0; order = Big }

-- an any with nothing behind it
abbrev pub alone : Read ValueFault Any → Option Any
alone (Ok v) = if is_empty v.1.rest then Some v.0 else None
alone (Err f) = None

unfoldable pub any_of : (octets : List ℕ) → Option Any
any_of octets = alone (any_value.format.reads (start octets))

abbrev pub parse_any : (word : List ℕ) → Option Any
parse_any word = octets_of word >>= any_of

abbrev pub some_any : (word : List ℕ) → Option (Option Any)
some_any word = option_map (λ v. Some v) (parse_any word)

-- a value, or none
abbrev pub given_value : (word : List ℕ) → Option (Option Any)
given_value word = if bytes_eq word (codes "-") then Some None else some_any word

abbrev pub value_with : (number : ℕ) → (word : List ℕ) → Option Line
value_with number word = option_map (λ v. Value number v) (given_value word)

unfoldable pub value_of : (text : List ℕ) → Option Line
value_of text = do
  words ← two_words text
  number ← number_of words.0
  value_with number words.1

-- ---- `reply CALL REPLY`

-- the reply to a query
abbrev pub reply_with : (number : ℕ) → (reply : List ℕ) → Option Line
reply_with number reply = option_map (λ r. Reply number r) (parse_reply Query reply)

unfoldable pub reply_line : (text : List ℕ) → Option Line
reply_line text = do
  words ← two_words text
  number ← number_of words.0
  reply_with number words.1

-- ---- a line

abbrev pub change_line : (names : List (List ℕ)) → (text : List ℕ) → Option Line
change_line names text = exchange_of names text >>= change_in

abbrev pub look_line : (names : List (List ℕ)) → (text : List ℕ) → Option Line
look_line names text = exchange_of names text >>= look_in

abbrev pub deliver_line : (text : List ℕ) → Option Line
deliver_line text = option_map (λ n. Deliver n) (one_number text)

abbrev pub answer_line : (text : List ℕ) → Option Line
answer_line text = option_map (λ n. Answer n) (one_number text)

abbrev pub lose_line : (text : List ℕ) → Option Line
lose_line text = option_map (λ n. Lose n) (one_number text)

abbrev pub line_by : (names : List (List ℕ)) → Keyword → (text : List ℕ) → Option Line
line_by names keyword.Words text = None
line_by names keyword.Change text = change_line names text
line_by names keyword.Look text = look_line names text
line_by names keyword.Ask text = ask_of names text
line_by names keyword.Deliver text = deliver_line text
line_by names keyword.Value text = value_of text
line_by names keyword.Answer text = answer_line text
line_by names keyword.Lose text = lose_line text
line_by names keyword.Reply text = reply_line text

-- what a line records, where it is in the table
unfoldable pub line_of : (names : List (List ℕ)) → (line : List ℕ) → Option Line
line_of names line = begin_of line >>= λ b. line_by names b.0 b.1

-- ---- `words NUMBER ..`

abbrev pub words_by : Keyword → (text : List ℕ) → Option (List ℕ)
words_by keyword.Words text = numbers_of text
words_by other text = None

-- the random words of the network, where a line tells them: only the first of a log may
unfoldable pub words_of : (line : List ℕ) → Option (List ℕ)
words_of line = begin_of line >>= λ b. words_by b.0 b.1
