-- From a text that is printed to what it says, and to the file that it says it of.
use Rattle.std.proofs.Common.{◌≡◌, ℕ, List, Ok, subst, arith}
use Rattle.td_file.specs.Files.{Opening, opening_of}
use Rattle.td_out.specs.Texts.{HasText}
use Rattle.td_command.specs.Printing.{PrintsOrNoMemory, PrintsFile, PrintsOf, PrintsText, SinkSeen}
use Rattle.td_command.specs.Shelves.{Shelves}
use Rattle.td_command.specs.declared.ended.Ended.{Ended}
use Rattle.td_command.specs.declared.ended.Ended.TheVariants.{Usage, Missing, TooLong, Refused, Memory, Printed}
use Rattle.td_command.specs.declared.ended.Ended.TheVariants.{PrintFault, Served}

pub said : (Says : List ℕ → Type 0) (text : List ℕ) (ended : Ended) (before after : SinkSeen) → Says text
    → PrintsText text ended before after → PrintsOrNoMemory Says ended before after
said Says text Printed before after says h = (text, says, h)
said Says text PrintFault before after says h = (text, says, h)
said Says text Usage before after says h = absurd h
said Says text Missing before after says h = absurd h
said Says text TooLong before after says h = absurd h
said Says text (Refused number cause) before after says h = absurd h
said Says text Memory before after says h = absurd h
said Says text (Served end) before after says h = absurd h

pub with_text : (Says : Opening → List ℕ → Type 0) (text : List ℕ) (o : Opening) (ended : Ended)
    (before after : SinkSeen)
    → opening_of text ≡ Ok o → PrintsOrNoMemory (Says o) ended before after → PrintsOf Says text ended before after
with_text Says text o Printed before after e h = (o, e, h)
with_text Says text o PrintFault before after e h = (o, e, h)
with_text Says text o Memory before after e h = h
with_text Says text o Usage before after e h = absurd h
with_text Says text o Missing before after e h = absurd h
with_text Says text o TooLong before after e h = absurd h
with_text Says text o (Refused number cause) before after e h = absurd h
with_text Says text o (Served end) before after e h = absurd h

pub of_text : (Says : Opening → List ℕ → Type 0) (text other : List ℕ) (ended : Ended) (before after : SinkSeen)
    → text ≡ other → PrintsOf Says text ended before after → PrintsOf Says other ended before after
of_text Says text other ended before after same h =
    subst (λ (t : List ℕ). PrintsOf Says t ended before after) same h

-- a text that was had isn't too long
pub with_file : (Says : Opening → List ℕ → Type 0) (texts : Shelves) (name text : List ℕ) (ended : Ended)
    (before after : SinkSeen)
    → HasText texts.content name texts.before texts.after (Ok text) → PrintsOf Says text ended before after
    → PrintsFile Says texts name ended before after
with_file Says texts name text Printed before after has h = (text, has, h)
with_file Says texts name text PrintFault before after has h = (text, has, h)
with_file Says texts name text (Refused number cause) before after has h = (text, has, h)
with_file Says texts name text Memory before after has h = h
with_file Says texts name text TooLong before after has h = absurd (omega (arith, has.0, h.0))
with_file Says texts name text Usage before after has h = absurd h
with_file Says texts name text Missing before after has h = absurd h
with_file Says texts name text (Served end) before after has h = absurd h
