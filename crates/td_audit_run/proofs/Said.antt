-- From a text that is printed to what it says, and to the file that it says it of.
use Rattle.std.proofs.Common.{◌≡◌, ℕ, List, Ok, subst, ◌⊎◌}
use Rattle.td_command.specs.Printing.{SinkSeen}
use Rattle.td_file.specs.Files.{Opening, opening_of}
use Rattle.td_audit_run.specs.Printing.{PrintsVerdict, PrintsOf, PrintsText}
use Rattle.td_audit_run.specs.declared.audited.Audited.{Audited}
use Rattle.td_audit_run.specs.declared.audited.Audited.TheVariants.{Usage, Missing, TooLong, Refused, Strange, Memory}
use Rattle.td_audit_run.specs.declared.audited.Audited.TheVariants.{Printed, Denied, PrintFault}

pub said : (Says : Audited → List ℕ → Type 0) (wanted : Audited) (text : List ℕ) (ended : Audited)
    (before after : SinkSeen) → Says wanted text → Says Printed text ⊎ Says Denied text
    → PrintsText wanted text ended before after → PrintsVerdict Says ended before after
said Says wanted text Printed before after says one h = (text, subst (λ (w : Audited). Says w text) h.0 says, h.1)
said Says wanted text Denied before after says one h = (text, subst (λ (w : Audited). Says w text) h.0 says, h.1)
said Says wanted text PrintFault before after says one h = (text, one, h)
said Says wanted text Memory before after says one h = h
said Says wanted text Usage before after says one h = absurd h
said Says wanted text Missing before after says one h = absurd h
said Says wanted text TooLong before after says one h = absurd h
said Says wanted text (Refused number cause) before after says one h = absurd h
said Says wanted text (Strange number) before after says one h = absurd h

-- the same text under another name
pub as_text : (wanted : Audited) (text other : List ℕ) (ended : Audited) (before after : SinkSeen) → text ≡ other
    → PrintsText wanted text ended before after → PrintsText wanted other ended before after
as_text wanted text other ended before after same h =
    subst (λ (t : List ℕ). PrintsText wanted t ended before after) same h

pub with_text : (Says : Opening → Audited → List ℕ → Type 0) (text : List ℕ) (o : Opening) (ended : Audited)
    (before after : SinkSeen)
    → opening_of text ≡ Ok o → PrintsVerdict (Says o) ended before after → PrintsOf Says text ended before after
with_text Says text o Printed before after e h = (o, e, h)
with_text Says text o Denied before after e h = (o, e, h)
with_text Says text o PrintFault before after e h = (o, e, h)
with_text Says text o (Strange number) before after e h = (o, e, h)
with_text Says text o Memory before after e h = h
with_text Says text o Usage before after e h = absurd h
with_text Says text o Missing before after e h = absurd h
with_text Says text o TooLong before after e h = absurd h
with_text Says text o (Refused number cause) before after e h = absurd h

pub of_text : (Says : Opening → Audited → List ℕ → Type 0) (text other : List ℕ) (ended : Audited)
    (before after : SinkSeen)
    → text ≡ other → PrintsOf Says text ended before after → PrintsOf Says other ended before after
of_text Says text other ended before after same h =
    subst (λ (t : List ℕ). PrintsOf Says t ended before after) same h
