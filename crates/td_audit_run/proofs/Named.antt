-- From what comes of a log, to the names of the log and of the file.
use Rattle.std.proofs.Common.{◌≡◌, ℕ, Bool, true, if◌then◌else◌, List, Option, Some, None, Ok, Err, sym, subst, refl}
use Rattle.td_command.specs.Printing.{SinkSeen}
use Rattle.td_command.specs.Shelves.{Shelves}
use Rattle.td_file.specs.Files.{Opening, opening_of}
use Rattle.td_file.specs.Stages.{IsRefusedFor}
use Rattle.td_file.specs.declared.fault.FileFault.{FileFault}
use Rattle.td_file.specs.declared.fault.FileFault.TheVariants.{Line}
use Rattle.td_lines.specs.Steps.{refusal}
use Rattle.td_lines.specs.declared.cause.LineCause.{LineCause}
use Rattle.td_out.specs.Texts.{HasText, NamedText}
use Rattle.td_audit_run.specs.Audits.{AuditsFile, AuditsNamed, AuditsText, Obeys, SaysVerdict}
use Rattle.td_audit_run.specs.Audits.AuditsFile.{has}
use Rattle.td_audit_run.specs.Audits.AuditsNamed.{audits}
use Rattle.td_audit_run.specs.Audits.AuditsText.{refused}
use Rattle.td_audit_run.specs.Commands.{Audit}
use Rattle.td_audit_run.specs.Printing.{PrintsVerdict}
use Rattle.td_audit_run.specs.declared.audited.Audited.{Audited}
use Rattle.td_audit_run.specs.declared.audited.Audited.TheVariants.{Refused}

-- the log that a name has
pub named : (o : Opening) (content : Option (List NamedText)) (name : List ℕ) (mid last : ℕ) (ended : Audited)
    (before after : SinkSeen) (log read : List ℕ) → read ≡ log → HasText content name mid last (Ok log)
    → PrintsVerdict (SaysVerdict read o) ended before after → AuditsNamed o content name mid last ended before after
named o content name mid last ended before after log read same there prints =
    audits log there (subst (λ (t : List ℕ). PrintsVerdict (SaysVerdict t o) ended before after) same prints)

-- the text that the name of a file has
pub from_file : (texts : Shelves) (file log : List ℕ) (ended : Audited) (before after : SinkSeen) (mid : ℕ)
    (text read : List ℕ) (content : Option (List NamedText)) → read ≡ text → content ≡ texts.content
    → HasText texts.content file texts.before mid (Ok text) → AuditsText read content log mid texts.after ended before after
    → AuditsFile texts file log ended before after
from_file texts file log ended before after mid text read content same kept there h =
    let of_text : AuditsText text content log mid texts.after ended before after =
    subst (λ (t : List ℕ). AuditsText t content log mid texts.after ended before after) same h in
    has mid text there
    (subst (λ (s : Option (List NamedText)). AuditsText text s log mid texts.after ended before after) kept of_text)

-- a refused file, told by the parts of its fault
pub refusing : (text : List ℕ) (content : Option (List NamedText)) (name : List ℕ) (mid : ℕ) (seen : SinkSeen)
    (fault : FileFault) (number n : ℕ) (why w : LineCause) → fault ≡ Line number why → IsRefusedFor (opening_of text) fault
    → n ≡ number → w ≡ why → AuditsText text content name mid mid (Refused n w) seen seen
refusing text content name mid seen fault number n why w is h e f =
    let at : opening_of text ≡ Err (refusal number why) = subst (IsRefusedFor (opening_of text)) is h in
    subst (λ (m : ℕ). AuditsText text content name mid mid (Refused m w) seen seen) (sym e)
    (subst (λ (v : LineCause). AuditsText text content name mid mid (Refused number v) seen seen) (sym f)
    (refused number why at refl refl refl))

-- the word that asks for an audit
pub by_word : (found : Bool) (file log : List ℕ) (texts : Shelves) (ended : Audited) (before after : SinkSeen)
    → found ≡ true → AuditsFile texts file log ended before after
    → Obeys (if found then Some (Audit file log) else None) texts ended before after
by_word found file log texts ended before after is h =
    subst (λ (b : Bool). Obeys (if b then Some (Audit file log) else None) texts ended before after) (sym is) h
