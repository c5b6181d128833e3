-- The lines of an answer: a result's, or the line of an exception.
use Rattle.std.specs.Prelude.{◌≡◌, ℕ, Bool, true, false, List, ◌++◌, length, codes, Option, Some, None}
use Rattle.td_ops.specs.declared.outcome.Answered.{Answered}
use Rattle.td_ops.specs.declared.outcome.Answered.TheVariants.{Done, User, System}
use Rattle.td_ops.specs.declared.outcome.Reply.{Reply}
use Rattle.td_ops.specs.declared.outcome.Reply.TheVariants as reply
use Rattle.td_value.specs.declared.structures.Offer.{Offer}
use Rattle.td_cli_printing.specs.Names.{exception_line, id_line, limits_line, name_lines, total_line}
use Rattle.td_cli_printing.specs.Offers.{described_lines, offers_lines}

-- the offers that a query found, its limits and the count
abbrev pub found_lines : List Offer → List (List ℕ) → List ℕ
found_lines offers limits = offers_lines offers
    ++ (limits_line limits ++ total_line (length offers))

-- a result of export, withdraw, describe, add_link, add_type, list_links or list_types; another one has no lines
abbrev pub reply_lines : Reply → Option (List ℕ)
reply_lines reply.Nothing = Some (codes "ok\n")
reply_lines (reply.Incarnation number) = Some (codes "ok\n")
reply_lines (reply.Id id) = Some (id_line id)
reply_lines (reply.Names names) = Some (name_lines names)
reply_lines (reply.Offer info) = Some (described_lines info.reference info.properties)
reply_lines other = None

abbrev pub answer_lines : Answered → Option (List ℕ)
answer_lines (Done result) = reply_lines result
answer_lines (User id) = Some (exception_line id)
answer_lines (System id minor completion) = Some (exception_line id)

-- lines stand at the end, or there are none and the bytes are as they were
abbrev pub PutsLines : Option (List ℕ) → Bool → List ℕ → List ℕ → Type 0
PutsLines (Some lines) put old new = (put ≡ true) × (new ≡ old ++ lines)
PutsLines None put old new = (put ≡ false) × (new ≡ old)
